-- What the code that elaborates expressions asks of the function that makes a class.
use Rattle.std.specs.Prelude.{ℕ, List, Option}
use denote.Ref.{Bor, MutBor}
use Rattle.std.specs.declared.alloc.Global.{Global}
use Rattle.pm_values.specs.declared.value.Value.{Value}
use Rattle.pm_elab.specs.declared.call.Given.{Given}
use Rattle.pm_elab.specs.declared.elaboration.Elaboration.{Elaboration}
use Rattle.pm_elab.specs.declared.site.Site.{Site as LentSite}
use Rattle.pm_elab.specs.Constructs.{make_at}
use Rattle.pm_elab.specs.Elab.{Checked, Elabs}
use Rattle.pm_elab.specs.Sites.{site_of}

-- the function can be called at the level, and then does what a call of the class does there
pub record Makes (level : Option ℕ)
    (pre : Global → Option ℕ → Bor LentSite → MutBor Elaboration → Bor (List ℕ) → Bor (List Given) → Type 0)
    (post : Global → Option ℕ → Bor LentSite → MutBor Elaboration → Bor (List ℕ) → Bor (List Given) → Checked Value → MutBor Elaboration → Type 0)
    : Type 0 where
  pub callable : (alloc : Global) (site : Bor LentSite) (old : MutBor Elaboration) (class : Bor (List ℕ)) (given : Bor (List Given))
      → pre alloc level site old class given
  pub makes : (alloc : Global) (site : Bor LentSite) (old new : MutBor Elaboration) (class : Bor (List ℕ)) (given : Bor (List Given))
      (result : Checked Value) → post alloc level site old class given result new
      → Elabs (make_at level (site_of site.now) class.now given.now old.now) result new.now
