-- Which scheduled blocks the terms of constraints stand for.
use Rattle.std.specs.Prelude.{ℕ, zero, suc, ◌==◌, ◌&&◌, Bool, false, nat_lt, List, [], ◌∷◌, flat_map, length, slice_index_or, Option, None, Some}
use Rattle.std.specs.List.{list_any}
use Rattle.pm_design.specs.declared.body.St.{St}
use Rattle.pm_design.specs.declared.connection.Callee.{Callee}
use Rattle.pm_design.specs.declared.connection.Part.{Part}
use Rattle.pm_design.specs.declared.connection.Term.{Term}
use Rattle.pm_design.specs.declared.connection.Term.TheVariants as term
use Rattle.pm_design.specs.declared.plan.Flat.{Flat}
use Rattle.pm_design.specs.declared.plan.Plan.{Plan}
use Rattle.pm_design.specs.Calls.{End, end_of, first_method, is_same_end, links_of, methods_of, reached, target_of}
use Rattle.pm_design.specs.Layout.{flat_part, layout_of, net_from, scope_of}
use Rattle.pm_design.specs.Runnable.{block_at}
use Rattle.pm_block.specs.Tables.{no_flat}
use Rattle.pm_cons.specs.Below.{any_below}
use Rattle.pm_touched.specs.Events.Place.{Bit}
use Rattle.pm_touched.specs.Naming.{body_names}
use Rattle.pm_paths.specs.PlanBlocks.{touch_at}

-- the scheduled block of a number
abbrev pub flat_at : Plan → ℕ → Flat
flat_at plan b = slice_index_or plan.scheduled b no_flat

-- the net of a part's bit, in an instance
abbrev pub net_of_bit : Plan → ℕ → Part → ℕ → ℕ
net_of_bit plan i part k = net_from (layout_of plan) (flat_part (scope_of plan i) part).bit k

-- the method that a callee of an instance leads to, if there is one
abbrev pub led_to : Plan → ℕ → Callee → Option End
led_to plan i m = first_method (reached (length (links_of plan)) (links_of plan) (end_of plan i m ∷ []))

-- the same method of the same instance
abbrev pub is_that : Option End → Option End → Bool
is_that None b = false
is_that (Some a) None = false
is_that (Some a) (Some b) = is_same_end a b

-- the instance of a method
abbrev pub instance_led_to : Option End → ℕ
instance_led_to None = 0
instance_led_to (Some e) = e.instance

-- the methods that the bodies of an instance may call, through so many levels of methods that call others
abbrev pub called_to : ℕ → Plan → ℕ → List St → List (Option End)
called_to zero plan i body = []
called_to (suc levels) plan i body =
    flat_map
    (λ m. led_to plan i m
    ∷ called_to levels plan (instance_led_to (led_to plan i m)) (target_of plan (led_to plan i m)).method.body)
    (body_names body).called

-- a scheduled block may call a method, itself or through other methods
abbrev pub may_call : Plan → Flat → Option End → Bool
may_call plan flat m = list_any (is_that m) (called_to (suc (methods_of plan)) plan flat.instance (block_at plan flat).body)

-- a scheduled block is one of those that a term of an instance's constraint stands for
abbrev pub stands_for : Plan → ℕ → Term → ℕ → Bool
stands_for plan i (term.Block f) b =
    nat_lt b (length plan.scheduled) && ((flat_at plan b).instance == i && (flat_at plan b).block == f)
stands_for plan i (term.Reads part) b = any_below part.width (λ k. (touch_at plan b (Bit (net_of_bit plan i part k))).read)
stands_for plan i (term.Writes part) b =
    any_below part.width (λ k. (touch_at plan b (Bit (net_of_bit plan i part k))).written)
stands_for plan i (term.Calls m) b = nat_lt b (length plan.scheduled) && may_call plan (flat_at plan b) (led_to plan i m)
stands_for plan i term.Wrong b = false
