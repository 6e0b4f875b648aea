-- What single expressions and statements do, in plainer terms.
use Rattle.std.proofs.Common.{◌≡◌, ◌≢◌, ◌∙◌, ◌+◌, ◌*◌, ◌/◌, ◌%◌, ◌^◌, ◌<◌, ◌≤◌, ◌==◌, ℕ, zero, suc, refl, sym, ap, ap₂, subst, Bool, true, false, not, length, nat_lt, arith, eqb-true, ltb-true, true≢false}
use Rattle.std.specs.Prelude.{IsTrue, if◌then◌else◌, slice_index_or}
use Rattle.std.proofs.lemmas.Bool.{and_parts, eqb-false, le-ltb, ltb-false}
use Rattle.std.proofs.lemmas.Nat.{mod-pow-add}
use Rattle.std.proofs.Math.Nat.{mod-eq_of_lt}
use Rattle.pm_bits.specs.Word.{Word, bit_of}
use Rattle.pm_design.specs.declared.body.St.TheVariants as st
use Rattle.pm_design.specs.Layout.{are_apart, is_other}
use Rattle.pm_design.specs.Typing.{element_width}
use Rattle.pm_block.specs.Places.{Valuation, number_at, put, put_at}
use Rattle.pm_block.specs.Run.{State, assigned, put_part, run, value_in}
use Rattle.pm_block.specs.RunLaws.{LastAssignmentCounts, AssignmentsWait, OthersStay, PastTheEndReadsZero, PastTheEndWritesNothing, PutIsRead}
use Rattle.pm_block.specs.Value.{no_part, part_word, places_of, value, zero_word}
use Rattle.pm_block.proofs.Equations.{value_pick}
use Rattle.pm_block.proofs.Statements.{run_set, run_set_pick}

-- an index past the end reads 0
pub past_the_end_reads_zero : PastTheEndReadsZero
past_the_end_reads_zero ready frame v items temps i ps le =
    let k : ℕ = (value ready frame v items temps i).value in
    value_pick ready frame v items temps i ps
    ∙ ap (λ (b : Bool). if b then part_word frame.names v (slice_index_or ps k no_part) else zero_word (element_width ps)) (le-ltb k (length ps) le)

-- an index past the end writes nothing
pub past_the_end_writes_nothing : PastTheEndWritesNothing
past_the_end_writes_nothing clocked scene i ps e s le =
    let k : ℕ = (value_in scene s i).value in
    run_set_pick clocked scene i ps e s
    ∙ ap (λ (b : Bool). if b then assigned clocked (put_part scene.frame.names (slice_index_or ps k no_part) (value_in scene s e)) s else s) (le-ltb k (length ps) le)

-- at the clock edge no assignment changes the places before the end
pub assignments_wait : AssignmentsWait
assignments_wait scene p e s = ap (λ (t : State). t.places) (run_set true scene p e s)

put_elsewhere : (p x : ℕ) (v : Valuation) (q : ℕ) → p ≢ q → put p x v q ≡ v q
put_elsewhere p x v q other = by (q == p) refl
  where
    by : (b : Bool) → (q == p) ≡ b → (if b then x else v q) ≡ v q
    by true e = absurd (other (sym (eqb-true q p e)))
    by false e = refl

put_here : (p x : ℕ) (v : Valuation) → put p x v p ≡ x
put_here p x v = by (p == p) refl
  where
    by : (b : Bool) → (p == p) ≡ b → (if b then x else v p) ≡ x
    by true e = refl
    by false e = absurd (eqb-false p p e refl)

-- a word that is put changes no other place
pub others_stay : OthersStay
unfolding put_at
others_stay place zero w v q other = refl
others_stay place (suc n) w v q other =
    put_elsewhere (place n) (bit_of w n) (put_at place n w v) q (other n (omega arith))
    ∙ others_stay place n w v q (λ i lt. other i (omega (arith, lt)))

number_elsewhere : (place : ℕ → ℕ) (p x n : ℕ) (v : Valuation) → IsTrue (is_other place p n) → number_at place n (put p x v) ≡ number_at place n v
unfolding number_at is_other
number_elsewhere place p x zero v other = refl
number_elsewhere place p x (suc n) v other =
    let parts = and_parts (not (place n == p)) (is_other place p n) other in
    let apart : p ≢ place n = λ same. absurd (differs (place n) p parts.0 (sym same)) in
    ap₂ (λ (a : ℕ) (b : ℕ). a + b * 2 ^ n) (number_elsewhere place p x n v parts.1) (put_elsewhere p x v (place n) apart)
  where
    differs : (a b : ℕ) → IsTrue (not (a == b)) → a ≢ b
    differs a b unlike same = by (a == b) refl unlike
      where
        by : (c : Bool) → (a == b) ≡ c → IsTrue (not c) → ⊥
        by true e unlike = true≢false (sym unlike)
        by false e unlike = eqb-false a b e same

number_put : (place : ℕ → ℕ) (n : ℕ) (w : Word) (v : Valuation) → IsTrue (are_apart place n) → number_at place n (put_at place n w v) ≡ w.value % 2 ^ n
unfolding number_at put_at are_apart
number_put place zero w v apart = omega arith
number_put place (suc n) w v apart =
    let parts = and_parts (is_other place (place n) n) (are_apart place n) apart in
    let u : Valuation = put_at place n w v in
    let low : number_at place n (put (place n) (bit_of w n) u) ≡ w.value % 2 ^ n = number_elsewhere place (place n) (bit_of w n) n u parts.0 ∙ number_put place n w v parts.1 in
    let top : put (place n) (bit_of w n) u (place n) ≡ bit_of w n = put_here (place n) (bit_of w n) u in
    let one : 1 + n ≡ suc n = omega arith in
    let joined : w.value % 2 ^ suc n ≡ (w.value / 2 ^ n % 2) * 2 ^ n + w.value % 2 ^ n = subst (λ (k : ℕ). w.value % 2 ^ k ≡ (w.value / 2 ^ n % 2) * 2 ^ n + w.value % 2 ^ n) one (mod-pow-add w.value 1 n) in
    let both : number_at place n (put (place n) (bit_of w n) u) + put (place n) (bit_of w n) u (place n) * 2 ^ n ≡ w.value % 2 ^ n + bit_of w n * 2 ^ n = ap₂ (λ (a : ℕ) (b : ℕ). a + b * 2 ^ n) low top in
    both ∙ omega (arith, joined)

-- a word that is put is read again
pub put_is_read : PutIsRead
put_is_read place n w v apart word wide =
    let number : number_at place n (put_at place n w v) ≡ w.value % 2 ^ n = number_put place n w v apart in
    let fits : w.value < 2 ^ n = subst (λ (k : ℕ). w.value < 2 ^ k) wide word.fits in
    let whole : w.value % 2 ^ n ≡ w.value = mod-eq_of_lt fits in
    let with : ℕ → ℕ → Word = λ a b. record { width = a; value = b } in
    ap₂ with (sym wide) (number ∙ whole)

not_before : (place : ℕ → ℕ) (q n : ℕ) → (q == place n) ≡ false → (i : ℕ) → i < suc n → place i ≡ q → ((j : ℕ) → j < n → place j ≢ q) → ⊥
not_before place q n e i lt same below = by (nat_lt i n) refl
  where
    by : (b : Bool) → nat_lt i n ≡ b → ⊥
    by true t = below i (ltb-true i n t) same
    by false t =
        let le : n ≤ i = ltb-false i n t in
        let last : i ≡ n = omega (arith, lt, le) in
        eqb-false q (place n) e (sym same ∙ ap place last)

put_agrees : (place : ℕ → ℕ) (n : ℕ) (w : Word) (u v : Valuation) (q : ℕ) → (((i : ℕ) → i < n → place i ≢ q) → u q ≡ v q) → put_at place n w u q ≡ put_at place n w v q
unfolding put_at
put_agrees place zero w u v q elsewhere = elsewhere (λ i lt. absurd (omega (arith, lt)))
put_agrees place (suc n) w u v q elsewhere =
    by (q == place n) refl (λ e. put_agrees place n w u v q (λ below. elsewhere (λ i lt same. not_before place q n e i lt same below)))
  where
    by : (b : Bool) → (q == place n) ≡ b → ((q == place n) ≡ false → put_at place n w u q ≡ put_at place n w v q) → (if b then bit_of w n else put_at place n w u q) ≡ (if b then bit_of w n else put_at place n w v q)
    by true e below = refl
    by false e below = below e

-- at the clock edge the last of two assignments of a part counts
pub last_assignment_counts : LastAssignmentCounts
last_assignment_counts scene p d e s v q =
    let first : State = assigned true (put_part scene.frame.names p (value_in scene s d)) s in
    let places : ℕ → ℕ = places_of scene.frame.names p in
    let later : State → ℕ = λ t. t.later v q in
    let word : Word = value_in scene s e in
    let waits : Valuation = s.later v in
    ap later (ap (run true scene (st.Set p e)) (run_set true scene p d s) ∙ run_set true scene p e first)
    ∙ (put_agrees places p.width word (put_at places p.width (value_in scene s d) waits) waits q (others_stay places p.width (value_in scene s d) waits q)
    ∙ ap later (sym (run_set true scene p e s)))
