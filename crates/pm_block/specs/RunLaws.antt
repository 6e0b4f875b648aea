-- What single expressions and statements do, in plainer terms.
use Rattle.std.specs.Prelude.{◌≡◌, ◌≢◌, ℕ, ◌<◌, ◌≤◌, Bool, true, IsTrue, List, [], ◌∷◌, length}
use Rattle.pm_bits.specs.Word.{Word, IsWord}
use Rattle.pm_design.specs.declared.body.Ex.{Ex}
use Rattle.pm_design.specs.declared.body.Ex.TheVariants as ex
use Rattle.pm_design.specs.declared.body.St.TheVariants as st
use Rattle.pm_design.specs.declared.connection.Callee.{Callee}
use Rattle.pm_design.specs.declared.connection.Part.{Part}
use Rattle.pm_design.specs.Layout.{are_apart}
use Rattle.pm_design.specs.Typing.{element_width}
use Rattle.pm_block.specs.Places.{Valuation, Items, put_at, word_at}
use Rattle.pm_block.specs.Run.{Scene, State, run, run_body, value_in}
use Rattle.pm_block.specs.Value.{Frame, Temporaries, value, zero_word}

-- an index past the end reads 0
abbrev pub PastTheEndReadsZero : Type 0
PastTheEndReadsZero =
    (ready : Callee → Word) (frame : Frame) (v : Valuation) (items : Items) (temps : Temporaries) (i : Ex) (ps : List Part)
    → length ps ≤ (value ready frame v items temps i).value
    → value ready frame v items temps (ex.Pick i ps) ≡ zero_word (element_width ps)

-- an index past the end writes nothing
abbrev pub PastTheEndWritesNothing : Type 0
PastTheEndWritesNothing =
    (clocked : Bool) (scene : Scene) (i : Ex) (ps : List Part) (e : Ex) (s : State)
    → length ps ≤ (value_in scene s i).value → run clocked scene (st.SetPick i ps e) s ≡ s

-- at the clock edge no assignment changes the places before the end
abbrev pub AssignmentsWait : Type 0
AssignmentsWait = (scene : Scene) (p : Part) (e : Ex) (s : State) → (run true scene (st.Set p e) s).places ≡ s.places

-- a word that is put into places, each two of them apart, is read again
abbrev pub PutIsRead : Type 0
PutIsRead =
    (place : ℕ → ℕ) (n : ℕ) (w : Word) (v : Valuation)
    → IsTrue (are_apart place n) → IsWord w → w.width ≡ n → word_at place n (put_at place n w v) ≡ w

-- a word that is put changes no other place
abbrev pub OthersStay : Type 0
OthersStay =
    (place : ℕ → ℕ) (n : ℕ) (w : Word) (v : Valuation) (q : ℕ)
    → ((i : ℕ) → i < n → place i ≢ q) → put_at place n w v q ≡ v q

-- at the clock edge the last of two assignments of a part counts
abbrev pub LastAssignmentCounts : Type 0
LastAssignmentCounts =
    (scene : Scene) (p : Part) (d e : Ex) (s : State) (v : Valuation) (q : ℕ)
    → (run_body true scene (st.Set p d ∷ st.Set p e ∷ []) s).later v q ≡ (run true scene (st.Set p e) s).later v q
