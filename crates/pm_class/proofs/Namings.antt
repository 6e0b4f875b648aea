-- One member more of an interface.
use Rattle.std.proofs.Common.{◌≡◌, ◌∙◌, ◌+◌, ◌++◌, ◌∷◌, [], ℕ, List, drop, slice_get, suc, Some, ap, sym, arith}
use Rattle.std.proofs.lemmas.List.{append_assoc}
use Rattle.pm_io.proofs.Pieces.{drop_at_item}
use Rattle.pm_values.specs.declared.value.Member.{Member}
use Rattle.pm_values.specs.declared.value.Value.{Value}
use Rattle.pm_values.specs.Tables.{Names}
use Rattle.pm_elab.specs.Constructs.{members_of}

member_first : (names : Names Value) (at : ℕ) (name : List ℕ) (v : Value) → slice_get names at ≡ Some (name, v)
    → members_of (drop at names) ≡ record { name = name; value = v } ∷ members_of (drop (suc at) names)
unfolding members_of
member_first names at name v is = ap members_of (drop_at_item names at (name, v) is)

-- the next name and its value are the next member
pub member_added : (names : Names Value) (at : ℕ) (name : List ℕ) (v : Value) (done more : List Member) (m : Member)
    → slice_get names at ≡ Some (name, v) → m ≡ record { name = name; value = v } → more ≡ done ++ m ∷ []
    → done ++ members_of (drop at names) ≡ members_of names
    → more ++ members_of (drop (at + 1) names) ≡ members_of names
member_added names at name v done more m found is added earlier =
    let next : at + 1 ≡ suc at = omega arith in
    ap (λ (ms : List Member). ms ++ members_of (drop (at + 1) names)) added
    ∙ (append_assoc done (m ∷ []) (members_of (drop (at + 1) names))
    ∙ (ap (λ (k : ℕ). done ++ m ∷ members_of (drop k names)) next
    ∙ (ap (λ (n : Member). done ++ n ∷ members_of (drop (suc at) names)) is
    ∙ (ap (λ (ms : List Member). done ++ ms) (sym (member_first names at name v found)) ∙ earlier))))
