-- Where a list of numbers breaks the precedence.
use Rattle.std.specs.Prelude.{ℕ, ◌+◌, List, [], ◌∷◌, Bool, cond, not, ◌||◌, ltb, Option, Some, None}
use Rattle.pm_cons.specs.Below.{all_below, least_below}
use Rattle.pm_cons.specs.Orders.{has}
use Rattle.pm_cons.specs.Precedence.{Precedence}
use Rattle.pm_cons.specs.declared.breaks.Break.{Break}
use Rattle.pm_cons.specs.declared.breaks.Break.TheVariants.{Unknown, Repeated, Early, Missing}

-- what is wrong with the number at a place, after those that are listed before it
abbrev pub break_at : Precedence → (ℕ → Bool) → ℕ → ℕ → Option Break
break_at g listed place b =
    cond (not (ltb b g.count)) (Some (Unknown place))
    (cond (listed b) (Some (Repeated place))
    (cond (all_below g.count (λ a. not (g.before a b) || listed a)) None (Some (Early place))))

-- that a block is missing, if one is
abbrev pub missing_of : Option ℕ → Option Break
missing_of None = None
missing_of (Some b) = Some (Missing b)

-- the first break, or the second if there is no first
abbrev pub else_break : Option Break → Option Break → Option Break
else_break None more = more
else_break (Some found) more = Some found

-- the first break of the list from a place on, after the blocks that are listed before it
abbrev pub break_from : Precedence → List ℕ → ℕ → List ℕ → Option Break
break_from g listed place [] = missing_of (least_below g.count (λ b. not (has listed b)))
break_from g listed place (b ∷ order) =
    else_break (break_at g (has listed) place b) (break_from g (b ∷ listed) (place + 1) order)

-- the break of a listed order: that of its least wrong place, or else its least missing block
abbrev pub break_of : Precedence → List ℕ → Option Break
break_of g order = break_from g [] 0 order
