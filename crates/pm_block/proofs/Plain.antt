-- What a body has nowhere that has neither states nor methods.
use Rattle.std.proofs.Common.{◌≡◌, ◌∙◌, ◌&&◌, ◌==◌, ℕ, List, [], ap, Bool, false, refl, length, nat_lt, arith}
use Rattle.std.proofs.lemmas.Bool.{le-ltb}
use Rattle.std.specs.Prelude.{Option}
use Rattle.pm_design.specs.declared.body.Ex.{Ex}
use Rattle.pm_design.specs.declared.body.Ex.TheVariants as ex
use Rattle.pm_design.specs.declared.body.Side.{Side}
use Rattle.pm_design.specs.declared.body.St.TheVariants as st
use Rattle.pm_design.specs.declared.connection.Callee.{Callee}
use Rattle.pm_design.specs.Layout.{Layout}
use Rattle.pm_design.specs.Typing.{Sight, Holding, Typing, typing, is_sound, is_number, is_deque, state_of}
use Rattle.pm_design.proofs.Soundness.{sound_set_number, sound_push, sound_pop, sound_clear, sound_call}
use Rattle.pm_design.proofs.Typings.{typing_number, typing_count, typing_item, typing_last, typing_ready}
use Rattle.pm_block.specs.Plans.{plain_sight}

no_number : (s : Sight) (k : ℕ) → s.states ≡ [] → is_number s k ≡ false
no_number s k none =
    ap (λ (hs : List Holding). nat_lt k (length hs) && (state_of s k).maxlen == 0) none
    ∙ ap (λ (b : Bool). b && (state_of s k).maxlen == 0) (le-ltb k 0 (omega arith))

no_deque : (s : Sight) (i k : ℕ) → s.states ≡ [] → is_deque s i k ≡ false
no_deque s i k none =
    ap (λ (hs : List Holding). nat_lt k (length hs) && nat_lt i (state_of s k).maxlen) none
    ∙ ap (λ (b : Bool). b && nat_lt i (state_of s k).maxlen) (le-ltb k 0 (omega arith))

pub plain_number : (scope : List (List ℕ)) (layout : Layout) (temps : List ℕ) (k : ℕ) → (typing (plain_sight scope layout temps) (ex.Number k)).fine ≡ false
plain_number scope layout temps k = ap (λ (t : Typing). t.fine) (typing_number (plain_sight scope layout temps) k) ∙ no_number (plain_sight scope layout temps) k refl

pub plain_count : (scope : List (List ℕ)) (layout : Layout) (temps : List ℕ) (k : ℕ) → (typing (plain_sight scope layout temps) (ex.Count k)).fine ≡ false
plain_count scope layout temps k = ap (λ (t : Typing). t.fine) (typing_count (plain_sight scope layout temps) k) ∙ no_deque (plain_sight scope layout temps) 0 k refl

pub plain_item : (scope : List (List ℕ)) (layout : Layout) (temps : List ℕ) (k : ℕ) (i : ℕ) → (typing (plain_sight scope layout temps) (ex.Item k i)).fine ≡ false
plain_item scope layout temps k i = ap (λ (t : Typing). t.fine) (typing_item (plain_sight scope layout temps) k i) ∙ no_deque (plain_sight scope layout temps) i k refl

pub plain_last : (scope : List (List ℕ)) (layout : Layout) (temps : List ℕ) (k : ℕ) → (typing (plain_sight scope layout temps) (ex.Last k)).fine ≡ false
plain_last scope layout temps k = ap (λ (t : Typing). t.fine) (typing_last (plain_sight scope layout temps) k) ∙ no_deque (plain_sight scope layout temps) 0 k refl

pub plain_ready : (scope : List (List ℕ)) (layout : Layout) (temps : List ℕ) (m : Callee) → (typing (plain_sight scope layout temps) (ex.Ready m)).fine ≡ false
plain_ready scope layout temps m = ap (λ (t : Typing). t.fine) (typing_ready (plain_sight scope layout temps) m)

-- all of them
pub ruleset plain_equations = (plain_number, plain_count, plain_item, plain_last, plain_ready)

pub plain_set_number : (scope : List (List ℕ)) (layout : Layout) (temps : List ℕ) (k : ℕ) (e : Ex) → is_sound (plain_sight scope layout temps) (st.SetNumber k e) ≡ false
plain_set_number scope layout temps k e = sound_set_number (plain_sight scope layout temps) k e

pub plain_push : (scope : List (List ℕ)) (layout : Layout) (temps : List ℕ) (k : ℕ) (side : Side) (e : Ex) → is_sound (plain_sight scope layout temps) (st.Push k side e) ≡ false
plain_push scope layout temps k side e = sound_push (plain_sight scope layout temps) k side e

pub plain_pop : (scope : List (List ℕ)) (layout : Layout) (temps : List ℕ) (k : ℕ) (side : Side) (target : Option ℕ) → is_sound (plain_sight scope layout temps) (st.Pop k side target) ≡ false
plain_pop scope layout temps k side target = sound_pop (plain_sight scope layout temps) k side target

pub plain_clear : (scope : List (List ℕ)) (layout : Layout) (temps : List ℕ) (k : ℕ) → is_sound (plain_sight scope layout temps) (st.Clear k) ≡ false
plain_clear scope layout temps k = sound_clear (plain_sight scope layout temps) k

pub plain_call : (scope : List (List ℕ)) (layout : Layout) (temps : List ℕ) (m : Callee) (es : List Ex) (target : Option ℕ) → is_sound (plain_sight scope layout temps) (st.Call m es target) ≡ false
plain_call scope layout temps m es target = sound_call (plain_sight scope layout temps) m es target

-- all of them
pub ruleset plain_statements = (plain_set_number, plain_push, plain_pop, plain_clear, plain_call)
