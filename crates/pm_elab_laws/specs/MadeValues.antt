-- Values whose components are of kinds that are there.
use Rattle.std.specs.Prelude.{ℕ, Bool, true, nat_lt}
use Rattle.std.specs.List.{list_all}
use Rattle.pm_values.specs.declared.value.New.{New}
use Rattle.pm_values.specs.declared.value.New.TheVariants as new
use Rattle.pm_values.specs.declared.value.Value.{Value, Value-F, fold-Value}
use Rattle.pm_elab.specs.Values.{member_sort}

-- a new component is of one of so many kinds
abbrev pub new_made : ℕ → New → Bool
new_made kinds (new.Child k) = nat_lt k kinds
new_made kinds _ = true

-- each new component in a value is of one of so many kinds, by its elements and members
abbrev pub made_of : ℕ → Value-F Bool Bool → Bool
made_of kinds (Value-F.New n) = new_made kinds n
made_of kinds (Value-F.Items bs) = list_all (λ b. b) bs
made_of kinds (Value-F.NewInterface bs) = list_all (λ b. b) bs
made_of kinds (Value-F.Interface bs) = list_all (λ b. b) bs
made_of kinds _ = true

-- each new component in a value is of one of so many kinds
unfoldable pub is_made : ℕ → Value → Bool
is_made kinds = fold-Value Bool Bool (made_of kinds) member_sort
