-- Places that some path leaves unwritten, or reads before it writes them.
use Rattle.std.proofs.Common.{◌≡◌, ◌∙◌, ◌&&◌, ◌||◌, List, [], ◌∷◌, Bool, true, false, not, refl, ap}
use Rattle.std.specs.List.{list_all, list_any}
use Rattle.pm_touched.specs.Events.{Place, Path, sets_on, reads_first_on}
use Rattle.pm_touched.specs.Found.{FaultsAreFound, is_faulty_path}
use Rattle.pm_touched.specs.Paths.{paths_of}
use Rattle.pm_touched.specs.Touches.{Touch}
use Rattle.pm_touched.proofs.Walked.{paths_are_walked}

-- one path more
fault_more : (f g s r : Bool) → ((not f || g) || (not s || r)) ≡ (not (f && s) || (g || r))
fault_more false g s r = refl
fault_more true true true r = refl
fault_more true true false r = refl
fault_more true false true r = refl
fault_more true false false r = refl

some_faulty : (x : Place) (paths : List Path) →
    list_any (is_faulty_path x) paths ≡ (not (list_all (sets_on x) paths) || list_any (reads_first_on x) paths)
some_faulty x [] = refl
some_faulty x (p ∷ paths) =
    ap (λ (b : Bool). is_faulty_path x p || b) (some_faulty x paths)
    ∙ fault_more (sets_on x p) (reads_first_on x p) (list_all (sets_on x) paths) (list_any (reads_first_on x) paths)

pub faults_are_found : FaultsAreFound
faults_are_found world i body x =
    some_faulty x (paths_of world i body)
    ∙ ap (λ (t : Touch). not t.surely || t.early) (paths_are_walked world i body x)
