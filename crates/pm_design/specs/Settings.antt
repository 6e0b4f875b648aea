-- Temporaries are assigned before they are read, on each path of a body.
use Rattle.std.specs.Prelude.{ℕ, ◌==◌, ◌&&◌, ◌||◌, Bool, true, nat_lt, List, [], ◌∷◌, map, Option, None, Some}
use Rattle.std.specs.List.{list_all}
use Rattle.pm_design.specs.declared.body.Ex.{Ex, Ex-F, fold-Ex}
use Rattle.pm_design.specs.declared.body.St.{St, St-F, fold-St}

-- whether each temporary that a node reads has been assigned, once it is known of its operands
abbrev pub reads_assigned_step : (ℕ → Bool) → Ex-F Bool → Bool
reads_assigned_step assigned (Ex-F.Const c) = true
reads_assigned_step assigned (Ex-F.Get p) = true
reads_assigned_step assigned (Ex-F.Temp t lo n) = assigned t
reads_assigned_step assigned (Ex-F.Pick i ps) = i
reads_assigned_step assigned (Ex-F.Number k) = true
reads_assigned_step assigned (Ex-F.Count k) = true
reads_assigned_step assigned (Ex-F.Item k i) = true
reads_assigned_step assigned (Ex-F.Last k) = true
reads_assigned_step assigned (Ex-F.Ready m) = true
reads_assigned_step assigned (Ex-F.Not a) = a
reads_assigned_step assigned (Ex-F.Fold f a) = a
reads_assigned_step assigned (Ex-F.Bin op a b) = a && b
reads_assigned_step assigned (Ex-F.Cat es) = list_all (λ e. e) es
reads_assigned_step assigned (Ex-F.Zext a n) = a
reads_assigned_step assigned (Ex-F.Sext a n) = a
reads_assigned_step assigned (Ex-F.Trunc a n) = a
reads_assigned_step assigned (Ex-F.Cond c a b) = c && (a && b)

-- whether each temporary that an expression reads has been assigned
unfoldable pub reads_assigned : (ℕ → Bool) → Ex → Bool
reads_assigned assigned = fold-Ex Bool (reads_assigned_step assigned)

-- which temporaries have been assigned, and whether none was read before
pub record Progress : Type 0 where
  pub fine : Bool
  pub assigned : ℕ → Bool

-- behind the reading of an expression
abbrev pub behind_reading : Ex → Progress → Progress
behind_reading e p = record { fine = p.fine && reads_assigned p.assigned e; assigned = p.assigned }

-- behind the assignment of a temporary, if one is named
abbrev pub behind_setting : Option ℕ → Progress → Progress
behind_setting None p = p
behind_setting (Some t) p = record { fine = p.fine; assigned = λ r. r == t || p.assigned r }

-- one after another
abbrev pub in_turn : List (Progress → Progress) → Progress → Progress
in_turn [] p = p
in_turn (f ∷ fs) p = in_turn fs (f p)

-- behind one of two branches
abbrev pub behind_either : Progress → Progress → Progress
behind_either p q = record { fine = p.fine && q.fine; assigned = λ r. p.assigned r && q.assigned r }

-- behind a statement, once each part has its progress
abbrev pub progress_step : St-F (Progress → Progress) → Progress → Progress
progress_step (St-F.Set part e) p = behind_reading e p
progress_step (St-F.SetPick i ps e) p = behind_reading e (behind_reading i p)
progress_step (St-F.SetTemp t e) p = behind_setting (Some t) (behind_reading e p)
progress_step (St-F.SetNumber k e) p = behind_reading e p
progress_step (St-F.Push k side e) p = behind_reading e p
progress_step (St-F.Pop k side target) p = behind_setting target p
progress_step (St-F.Clear k) p = p
progress_step (St-F.Call m es target) p = behind_setting target (in_turn (map behind_reading es) p)
progress_step (St-F.If c xs ys) p =
    let q = behind_reading c p in
    behind_either (in_turn xs q) (in_turn ys q)

-- behind a statement
unfoldable pub progress : St → Progress → Progress
progress = fold-St (Progress → Progress) progress_step

-- behind a body whose first temporaries, so many, are arguments
abbrev pub progress_of : ℕ → List St → Progress
progress_of arguments body = in_turn (map progress body) (record { fine = true; assigned = λ t. nat_lt t arguments })
