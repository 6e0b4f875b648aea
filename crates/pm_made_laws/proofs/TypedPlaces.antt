-- Expressions in the bodies of a design that is given are sound.
use Rattle.std.proofs.Common.{◌≡◌, ℕ, IsTrue, List, sym, subst}
use Rattle.std.specs.Prelude.{Ok}
use Rattle.pm_design.specs.declared.connection.Part.{Part}
use Rattle.pm_design.specs.Lookups.{is_readable, signature_of}
use Rattle.pm_syn.specs.declared.statement.Node.{Node}
use Rattle.pm_elab.specs.declared.elaboration.RawDesign.{RawDesign}
use Rattle.pm_elab.specs.declared.parameter.Param.{Param}
use Rattle.pm_elab.specs.Files.{build}
use Rattle.pm_elab_laws.specs.Soundness.{are_good_params, declares_proper_names}
use Rattle.pm_typing.specs.Sites.{Scope, Site}
use Rattle.pm_type_laws.specs.Good.{IsMade}
use Rattle.pm_type_laws.specs.Views.{IsSite, View}
use Rattle.pm_type_laws.proofs.Expressions.{expressions_are_sound}
use Rattle.pm_made_laws.specs.Typed.{ExpressionsOfDesignsAreSound, IsPlace}
use Rattle.pm_made_laws.proofs.MadeScopes.{scopes_made}

-- the scope of a place, with the design that is given
abbrev in_design : RawDesign → Scope → Scope
in_design given scope = record scope { design = given }

-- a place is one that the law of typing asks for
place_site : (nodes : List Node) (name : List ℕ) (params : List Param) (given : RawDesign)
    → IsTrue (declares_proper_names nodes) → IsTrue (are_good_params params) → build nodes name params ≡ Ok given
    → (view : View) (site : Site) → IsPlace given view site → IsSite view site
place_site nodes name params given names good is view site place =
    let made : IsMade (in_design given site.scope) =
    scopes_made nodes name params given names good is place.number site.scope.kind site.scope.raw site.scope.own
    site.scope.sort place.kind place.raw in
    let back : given ≡ site.scope.design = sym place.design in (
      record {
        made = subst (λ (d : RawDesign). IsMade (in_design d site.scope)) back made;
        reads = subst (λ (d : RawDesign). (p : Part) → IsTrue (is_readable d.design site.scope.kind p)
            → IsTrue (view.sight.reads p)) back place.reads;
        states = place.states;
        calls = subst (λ (d : RawDesign). view.sight.calls ≡ signature_of d.design site.scope.kind) back place.calls;
      },
      place.bounds,
    )

pub expressions_of_designs : ExpressionsOfDesignsAreSound
expressions_of_designs nodes name params given names good is view site e before after value ty place typed =
    expressions_are_sound view site e before after value ty
    (place_site nodes name params given names good is view site place) typed
