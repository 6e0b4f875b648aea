-- A design that passes all tests isn't refused.
use Rattle.std.proofs.Common.{◌≤◌, ◌≡◌, ◌<◌, ◌^◌, ℕ, List, [], arith, refl, sym, ◌∙◌, subst, ◌⊎◌, inl, inr}
use Rattle.std.specs.Prelude.{Contains, Result, Ok, Err}
use Rattle.pm_design.specs.declared.design.Design.{Design}
use Rattle.pm_design.specs.declared.plan.Nets.{Nets}
use Rattle.pm_callees.specs.Chains.{LeadsTo}
use Rattle.pm_callees.specs.Sets.{IsEmpty, IsSeveral, IsSingle as IsOne}
use Rattle.pm_design.specs.Calls.{End}
use Rattle.pm_design.specs.Instances.{flat_bits}
use Rattle.pm_design.specs.Lookups.{kind_of}
use Rattle.pm_instances.specs.Laid.{laid_out}
use Rattle.pm_nets.specs.declared.check.Check.{Check}
use Rattle.pm_nets.specs.declared.fault.NetFault.{NetFault}
use Rattle.pm_nets.specs.declared.fault.NetFault.TheVariants as fault
use Rattle.std.proofs.lemmas.Bool.{cases_lt}
use Rattle.std.proofs.Math.Nat.{min-eq_left, min-eq_right, min-le_left}
use Rattle.pm_work.specs.Work.{counted, work_of}
use Rattle.pm_nets.specs.Answers.{Accepts, Answers, IsAccepted, IsLarge, IsSmall, Refuses}
use Rattle.pm_nets.specs.Links.{AreNets}
use Rattle.pm_nets.specs.Faults.{HasNoLine, IsFirstLine, lines_of}

-- a list without members
none_listed : (xs : List ℕ) (x : ℕ) → xs ≡ [] → Contains xs x → ⊥
none_listed xs x is there = not_in (subst (λ (l : List ℕ). Contains l x) is there)
  where
    not_in : Contains [] x → ⊥
    not_in none = let less : none.0 < 0 = none.1 in absurd (omega arith)

no_first_line : (design : Design) (check : Check) (line : ℕ) → HasNoLine design check → IsFirstLine design check line → ⊥
no_first_line design check line none first =
    none_listed (lines_of design check (kind_of design first.kind)) line (none first.kind first.known first.used)
    first.least.listed

not_large : (design : Design) (count : ℕ) → IsSmall design → IsLarge design count → ⊥
not_large design count small large = let more : 2 ^ 18 < flat_bits design = large.0 in absurd (omega arith)

-- a set of one is neither empty nor has two
not_empty : (In : End → Type 0) → IsEmpty In → IsOne In → ⊥
not_empty In none one = none one.one one.within

not_several : (In : End → Type 0) → IsSeveral In → IsOne In → ⊥
not_several In two one = two.differ (one.only two.one two.one_in ∙ sym (one.only two.other two.other_in))

-- only memory is wanting
pub only_memory : (design : Design) (error : NetFault) → Refuses design error → IsAccepted design → error ≡ fault.NoMemory
only_memory design (fault.TooManyBits count) refuses accepted =
    absurd (not_large design count accepted.0.0.0.0.0.0 refuses)
only_memory design (fault.BadDirection line) refuses accepted =
    absurd (no_first_line design _ line accepted.0.0.0.0.0.1 refuses.1)
only_memory design (fault.JoinMismatch line) refuses accepted =
    absurd (no_first_line design _ line accepted.0.0.0.0.1 refuses.1)
only_memory design (fault.MultiWriter signal bit) refuses accepted =
    absurd (accepted.0.0.0.1 refuses.1.0 refuses.1.1.double)
only_memory design (fault.NoWriter signal bit) refuses accepted =
    absurd (accepted.0.0.1 refuses.1.0 refuses.1.1.undriven)
only_memory design (fault.NoCallee port) refuses accepted =
    absurd (not_empty (LeadsTo (laid_out design) refuses.1.0) refuses.1.1.none (accepted.0.1 refuses.1.0 refuses.1.1.port))
only_memory design (fault.TwoCallees port) refuses accepted =
    absurd (not_several (LeadsTo (laid_out design) refuses.1.0) refuses.1.1.two (accepted.0.1 refuses.1.0 refuses.1.1.port))
only_memory design (fault.MethodCycle method) refuses accepted = absurd refuses
only_memory design (fault.TooMuchWork count) refuses accepted =
    let less : work_of design ≤ 2 ^ 24 = accepted.1 in
    let more : 2 ^ 24 < work_of design = refuses.1.0 in
    absurd (omega arith)
only_memory design fault.NoMemory refuses accepted = refl

-- what is answered is accepted, and what is refused isn't
pub is_accepted : (design : Design) (result : Result Nets NetFault) →
    Answers design (λ nets. IsAccepted design × AreNets (laid_out design) nets) result → Accepts design result
is_accepted design (Ok nets) answers = answers.0
is_accepted design (Err error) refuses = only_memory design error refuses

pub are_nets : (design : Design) (result : Result Nets NetFault) →
    Answers design (λ nets. IsAccepted design × AreNets (laid_out design) nets) result →
    Answers design (AreNets (laid_out design)) result
are_nets design (Ok nets) answers = answers.1
are_nets design (Err error) refuses = refuses

-- a count that stops at 2^63 tells a small number from a greater one
pub few_counted : (n count : ℕ) → count ≡ counted n → count ≤ 2 ^ 24 → n ≤ 2 ^ 24
few_counted n count is few = go (cases_lt n (2 ^ 63))
  where
    go : (n < 2 ^ 63) ⊎ (2 ^ 63 ≤ n) → n ≤ 2 ^ 24
    go (inl lt) = let e : counted n ≡ n = min-eq_left (omega arith) in omega arith
    go (inr le) = let e : counted n ≡ 2 ^ 63 = min-eq_right le in absurd (omega arith)

pub more_counted : (n count : ℕ) → count ≡ counted n → 2 ^ 24 < count → 2 ^ 24 < n
more_counted n count is more = let e : counted n ≤ n = min-le_left n (2 ^ 63) in omega arith

pub ruleset weighing = (few_counted, more_counted)

pub ruleset accepting = (is_accepted, are_nets)
