-- Lines of those that pass a test.
use Rattle.std.proofs.Common.{◌≡◌, ◌∙◌, ◌+◌, ◌<◌, ◌≤◌, ◌++◌, ℕ, List, length, drop, get_or, sym, ap}
use Rattle.std.proofs.Common.{subst, arith, Bool}
use Rattle.std.specs.Prelude.{IsTrue}
use Rattle.std.specs.List.{list_all}
use Rattle.std.proofs.lemmas.Bool.{and_parts}
use Rattle.std.proofs.lemmas.List.{append_assoc, append-nil, drop_more, drop_all, get_or_default}
use Rattle.pm_design.specs.declared.connection.Join.{Join}
use Rattle.pm_design.specs.declared.connection.Tie.{Tie}
use Rattle.pm_design.specs.declared.design.Design.{Design}
use Rattle.pm_design.specs.declared.design.Kind.{Kind}
use Rattle.pm_design.specs.Elaborated.{IsElaborated, is_before, is_good_join}
use Rattle.pm_design.specs.Lookups.{kind_of, lies_within, no_kind}
use Rattle.pm_instances.proofs.EachKind.{ordered, before_more}
use Rattle.pm_instances.proofs.Numbers.{item_passes}
use Rattle.pm_nets.specs.Faults.{kept, lines_where}

-- one element more
pub one_more_line : {X : Type 0} (test : X → Bool) (line : X →
    ℕ) (xs : List X) (i : ℕ) (lines now whole : List ℕ) (x : X) → i < length xs →
    x ≡ get_or xs i x → lines ++ lines_where test line (drop i xs) ≡ whole → now ≡ lines ++ kept (test x) (line x) →
    now ++ lines_where test line (drop (i + 1) xs) ≡ whole
unfolding lines_where
one_more_line test line xs i lines now whole x lt is so_far more =
    ap (λ (l : List ℕ). l ++ lines_where test line (drop (i + 1) xs)) more
    ∙ (append_assoc lines (kept (test x) (line x)) (lines_where test line (drop (i + 1) xs))
    ∙ (ap (λ (y : _). lines ++ (kept (test y) (line y) ++ lines_where test line (drop (i + 1) xs))) is
    ∙ (ap (λ (l : List _). lines ++ lines_where test line l) (sym (drop_more xs i x lt)) ∙ so_far)))

pub line_more : {X : Type 0} (test : X → Bool) (line : X → ℕ) (xs : List X) (i : ℕ) (lines now whole : List ℕ)
    (d : X) → i < length xs →
    lines ++ lines_where test line (drop i xs) ≡ whole → now ≡ lines ++
    kept (test (get_or xs i d)) (line (get_or xs i d)) →
    now ++ lines_where test line (drop (i + 1) xs) ≡ whole
line_more test line xs i lines now whole d lt so_far more =
    one_more_line test line xs i lines now whole (get_or xs i d) lt
    (get_or_default xs i d (get_or xs i d) lt) so_far more

pub line_tested : {X : Type 0} (test : X → Bool) (line : X → ℕ) (xs : List X) (i : ℕ) (lines now whole : List ℕ)
    (x : X) (b : Bool) → i < length xs →
    x ≡ get_or xs i x → lines ++ lines_where test line (drop i xs) ≡ whole → b ≡ test x → now ≡ lines ++
    kept b (line x) →
    now ++ lines_where test line (drop (i + 1) xs) ≡ whole
line_tested test line xs i lines now whole x b lt is so_far tested more =
    one_more_line test line xs i lines now whole x lt is so_far (more ∙
    ap (λ (t : Bool). lines ++ kept t (line x)) tested)

pub element_tested : {X : Type 0} (test : X → Bool) (line : X →
    ℕ) (xs : List X) (i : ℕ) (lines now whole : List ℕ) (d : X) (b : Bool) → i < length xs →
    lines ++ lines_where test line (drop i xs) ≡ whole → b ≡ test (get_or xs i d) → now ≡ lines ++
    kept b (line (get_or xs i d)) →
    now ++ lines_where test line (drop (i + 1) xs) ≡ whole
element_tested test line xs i lines now whole d b lt so_far tested more =
    line_tested test line xs i lines now whole (get_or xs i d) b lt
    (get_or_default xs i d (get_or xs i d) lt) so_far tested more

pub all_lines : {X : Type 0} (test : X → Bool) (line : X → ℕ) (xs : List X) (i : ℕ) (lines whole : List ℕ) →
    length xs ≤ i →
    lines ++ lines_where test line (drop i xs) ≡ whole → lines ≡ whole
unfolding lines_where
all_lines test line xs i lines whole le so_far =
    sym (append-nil lines) ∙ (ap (λ (l : List _). lines ++ lines_where test line l) (sym (drop_all i xs le)) ∙ so_far)

pub join_good : (design : Design) (kind : Kind) (joins : List Join) (i : ℕ) (x : Join) →
    IsTrue (list_all (is_good_join design kind) joins) →
    i < length joins → x ≡ get_or joins i x → IsTrue (is_good_join design kind x)
join_good design kind joins i x all lt at = item_passes (is_good_join design kind) joins i x all lt at

pub end_a : (design : Design) (kind : Kind) (x : Join) → IsTrue (is_good_join design kind x) →
    IsTrue (lies_within design kind x.a)
end_a design kind x good = (and_parts (lies_within design kind x.a) _ good).0

pub end_b : (design : Design) (kind : Kind) (x : Join) → IsTrue (is_good_join design kind x) →
    IsTrue (lies_within design kind x.b)
end_b design kind x good = (and_parts (lies_within design kind x.b) _
    (and_parts (lies_within design kind x.a) _ good).1).0

pub tie_within : (design : Design) (kind : Kind) (ties : List Tie) (i : ℕ) (x : Tie) →
    IsTrue (list_all (λ t. lies_within design kind t.part) ties) →
    i < length ties → x ≡ get_or ties i x → IsTrue (lies_within design kind x.part)
tie_within design kind ties i x all lt at = item_passes (λ (t : Tie).
    lies_within design kind t.part) ties i x all lt at

pub ruleset lines = (join_good, end_a, end_b, tie_within)

-- four lists, one after another
pub appended : (a b c d lines one two three : List ℕ) → one ≡ a → two ≡ one ++ b → three ≡ two ++ c → lines ≡ three ++
    d →
    lines ≡ a ++ b ++ c ++ d
appended a b c d lines one two three p q r s = s ∙ (ap (λ (l : List ℕ). l ++ d) (r ∙
    ap (λ (l : List ℕ). l ++ c) (q ∙ ap (λ (l : List ℕ). l ++ b) p)))

pub ruleset joined_up = (appended)

is_kind : (design : Design) (k : ℕ) (kind : Kind) → k < length design.kinds → kind ≡ get_or design.kinds k kind →
    kind ≡ kind_of design k
is_kind design k kind known is = is ∙ get_or_default design.kinds k kind no_kind known

pub kind_children : (design : Design) (k : ℕ) (kind : Kind) → IsElaborated design → k < length design.kinds →
    kind ≡ get_or design.kinds k kind →
    IsTrue (list_all (is_before (length design.kinds)) kind.children)
kind_children design k kind elaborated known is =
    subst (λ (x : Kind). IsTrue (list_all (is_before (length design.kinds)) x.children))
    (sym (is_kind design k kind known is))
    (before_more (kind_of design k).children k (length design.kinds) (omega arith)
    (ordered design elaborated k known))

pub kind_joins : (design : Design) (k : ℕ) (kind : Kind) → IsElaborated design → k < length design.kinds →
    kind ≡ get_or design.kinds k kind →
    IsTrue (list_all (is_good_join design kind) kind.joins)
kind_joins design k kind elaborated known is =
    subst (λ (x : Kind). IsTrue (list_all (is_good_join design x) x.joins)) (sym (is_kind design k kind known is))
    (elaborated.kinds k known).joins

pub kind_ties : (design : Design) (k : ℕ) (kind : Kind) → IsElaborated design → k < length design.kinds →
    kind ≡ get_or design.kinds k kind →
    IsTrue (list_all (λ t. lies_within design kind t.part) kind.ties)
kind_ties design k kind elaborated known is =
    subst (λ (x : Kind). IsTrue (list_all (λ (t : Tie). lies_within design x t.part) x.ties))
    (sym (is_kind design k kind known is)) (elaborated.kinds k known).ties

pub ruleset kinds = (kind_children, kind_joins, kind_ties)
