use Rattle.std.proofs.Common.{ap, ap₂, ◌∙◌, sym, subst, map, string_bytes, inl, inr}
use Rattle.clap.specs.Words.{is_simple, is_simple_and_free, fault_of, matches_of, Kinds, HasKind}
use Rattle.pm_words.proofs.Simple.{the_app_is_simple, the_app_is_free}
use Rattle.pm_words.proofs.command.matches_in.Goals as goal

pub returns-in-Ok-clause-taken : goal.returns-in-Ok-clause-taken
returns-in-Ok-clause-taken c =
    let app = c.in_ok-command.ensures in
    let words = ap (map string_bytes) c.as_slice.ensures.value in
    let free = ap is_simple_and_free app ∙ the_app_is_free in
    sym (ap₂ fault_of app words) ∙ c.in-Ok.ensures.kinds free

pub returns-in-Ok-clause-found : goal.returns-in-Ok-clause-found
returns-in-Ok-clause-found c =
    let app = c.in_ok-command.ensures in
    let words = ap (map string_bytes) c.as_slice.ensures.value in
    let simple = ap is_simple app ∙ the_app_is_simple in
    (c.in-Ok.ensures.matches simple).0 ∙ ap₂ matches_of app words

pub returns : goal.returns
returns c =
    let app = c.in_ok-command.ensures in
    let words = ap (map string_bytes) c.as_slice.ensures.value in
    let free = ap is_simple_and_free app ∙ the_app_is_free in
    record {
      taken = tt;
      found = tt;
      usage = λ _ taken. elim
          (subst (λ (ks : Kinds). HasKind ks c.in-Err.error) (ap₂ fault_of app words ∙ taken)
          (c.in-Err.ensures.kinds free)) [
            | inl h ↦ c.in_default.not-OutOfMemory (c.kind.ensures ∙ h)
            | inr h ↦ h
          ];
    }
