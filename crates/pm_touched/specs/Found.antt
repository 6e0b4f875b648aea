-- That one walk finds what paths do.
use Rattle.std.specs.Prelude.{ℕ, ◌≡◌, ◌||◌, Bool, not, List}
use Rattle.std.specs.List.{list_any}
use Rattle.pm_design.specs.declared.body.St.{St}
use Rattle.pm_block.specs.Value.{World}
use Rattle.pm_touched.specs.Events.{Place, Path, sets_on, reads_first_on}
use Rattle.pm_touched.specs.Paths.{paths_of}
use Rattle.pm_touched.specs.Touches.{touch_of}
use Rattle.pm_touched.specs.Walks.{walked}

-- what the paths of a body do with a place is what one walk over the body finds
abbrev pub PathsAreWalked : Type 0
PathsAreWalked = (world : World) (i : ℕ) (body : List St) (x : Place) → touch_of x (paths_of world i body) ≡ walked world i x body

-- a path leaves a place unwritten, or reads it before its first write
abbrev pub is_faulty_path : Place → Path → Bool
is_faulty_path x path = not (sets_on x path) || reads_first_on x path

-- some path of a body does so exactly where one walk finds that not each path writes the place, or that some path reads
-- it before its first write
abbrev pub FaultsAreFound : Type 0
FaultsAreFound =
    (world : World) (i : ℕ) (body : List St) (x : Place)
    → list_any (is_faulty_path x) (paths_of world i body)
    ≡ (not (walked world i x body).surely || (walked world i x body).early)
