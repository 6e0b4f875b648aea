-- What some paths do with a place.
use Rattle.std.specs.Prelude.{Bool, List}
use Rattle.std.specs.List.{list_all, list_any}
use Rattle.pm_touched.specs.Events.{Place, Path, reads_on, writes_on, sets_on, reads_first_on}

-- whether some path reads it, some path writes it or may write it, each path writes it, and some path reads it before
-- its first write
pub record Touch : Type 0 where
  pub read : Bool
  pub written : Bool
  pub surely : Bool
  pub early : Bool

-- what some paths do with a place
abbrev pub touch_of : Place → List Path → Touch
touch_of x paths = record {
  read = list_any (reads_on x) paths;
  written = list_any (writes_on x) paths;
  surely = list_all (sets_on x) paths;
  early = list_any (reads_first_on x) paths;
}
