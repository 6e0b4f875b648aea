-- Decorators and `return`, which have no lines inside them.
use Rattle.std.proofs.Common.{◌≡◌, ℕ, Bool, true, false, List, Some, None, refl}
use Rattle.std.specs.Prelude.{if◌then◌else◌, codes, Option}
use Rattle.std.specs.Str.{bytes_eq}
use Rattle.std.proofs.lemmas.Bool.{cond_both}
use Rattle.pm_syn.specs.declared.statement.Stmt.{Stmt, Stmt-F}
use Rattle.pm_parse.specs.Forms.{after_colon_at, class_form, form_at, function_form}
use Rattle.pm_parse.specs.Layout.{has_body}
use Rattle.pm_parse.specs.declared.form.Form.{Form}
use Rattle.pm_parse.specs.declared.form.Form.TheVariants as form

-- a line of this form has none inside it: a decorator and `return`
abbrev pub has_none_under : Form → Bool
has_none_under form.BitstructDecorator = true
has_none_under form.BlockDecorator = true
has_none_under form.Guard = true
has_none_under form.OtherDecorator = true
has_none_under form.Return = true
has_none_under other = false

-- a class is no such line
class_none_under : (base : Option (List ℕ)) → has_none_under (class_form base) ≡ false
class_none_under None = refl
class_none_under (Some base) =
    cond_both (bytes_eq base (codes "Component")) form.ComponentClass (if bytes_eq base (codes "Interface") then form.InterfaceClass else form.OtherClass) (λ (f : Form). has_none_under f ≡ false) (λ _. refl) (
    λ _. cond_both (bytes_eq base (codes "Interface")) form.InterfaceClass form.OtherClass (λ (f : Form). has_none_under f ≡ false) (λ _. refl) (λ _. refl))

-- nor is a function
function_none_under : (name : List ℕ) (has_self : Bool) → has_none_under (function_form name has_self) ≡ false
function_none_under name false = refl
function_none_under name true = cond_both (bytes_eq name (codes "construct")) form.Construct form.Method (λ (f : Form). has_none_under f ≡ false) (λ _. refl) (λ _. refl)

-- such a line is no header
pub no_body_at : (statement : Stmt-F Stmt) → has_none_under (form_at statement) ≡ true → has_body (after_colon_at statement) ≡ false
no_body_at (Stmt-F.Class name base) is = let no = class_none_under base in cc
no_body_at (Stmt-F.Def name has_self parameters annotation inner) is = let no = function_none_under name has_self in cc
no_body_at (Stmt-F.If condition inner) is = cc
no_body_at (Stmt-F.Elif condition inner) is = cc
no_body_at (Stmt-F.Else inner) is = cc
no_body_at (Stmt-F.For name bounds inner) is = cc
no_body_at other is = refl
