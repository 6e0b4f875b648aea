-- The answer to the lines of a file.
use Rattle.std.proofs.Common.{◌≡◌, ◌∙◌, List, [], ◌∷◌, All, IsTrue, Option, Some, None, ap, inl, inr, is_some, refl, sym}
use Rattle.std.specs.Prelude.{nat_lt}
use Rattle.std.proofs.lemmas.Bool.{cases_Bool}
use Rattle.std.proofs.lemmas.List.Elements.{All-cons, All-nil}
use Rattle.pm_syn.specs.declared.statement.Stmt.{Stmt}
use Rattle.pm_grammar.specs.Depths.{depth_of_statement}
use Rattle.pm_parse.specs.Faults.{fault_after, fault_or, first_fault}
use Rattle.pm_parse.specs.Forms.{line_of}
use Rattle.pm_parse.specs.Layout.{fits}
use Rattle.pm_parse.specs.declared.entry.Entry.{Entry}
use Rattle.pm_parse.specs.declared.fault.ParseFault.{ParseFault}
use Rattle.pm_parse.specs.declared.form.LineForm.{LineForm}

-- the line has a statement
abbrev HasStatement : Entry → Type 0
HasStatement entry = IsTrue (is_some entry.statement)

-- a line without a fault has a statement, and those after it have no fault
pub fault_or_none : (before : List LineForm) (entry : Entry) (after : List Entry) (said : Option Stmt) (otherwise : Stmt → Option ParseFault) → fault_or before entry after said otherwise ≡ None
    → (statement : Stmt) × (said ≡ Some statement) × (otherwise statement ≡ None)
fault_or_none before entry after None otherwise none = cc
fault_or_none before entry after (Some statement) otherwise none =
    elim (cases_Bool (nat_lt 64 (depth_of_statement statement))) [
      | inl deep ↦ let faulty = rw deep at none in cc
      | inr shallow ↦
          let fitting = rw shallow at none in
          elim (cases_Bool (fits before (line_of entry.column statement) after)) [
            | inl fit ↦ (statement, refl, rw fit at fitting)
            | inr unfit ↦ let faulty = rw unfit at fitting in cc
          ]
    ]

-- lines without a fault have statements
none_faulty : (before : List LineForm) (entries : List Entry) → fault_after before entries ≡ None → All HasStatement entries
none_faulty before [] none = All-nil HasStatement
none_faulty before (entry ∷ entries) none =
    let first = fault_or_none before entry entries entry.statement (λ (statement : Stmt). fault_after (line_of entry.column statement ∷ before) entries) none in
    All-cons HasStatement entry entries (rw first.1 refl) (none_faulty (line_of entry.column first.0 ∷ before) entries first.2)

-- a file's lines without a fault have statements
pub faultless : (entries : List Entry) → first_fault entries ≡ None → All HasStatement entries
faultless entries none = none_faulty [] entries none

-- the first fault of the lines, as it is found in a slice of them
pub fault_found : (entries seen : List Entry) (found fault : Option ParseFault) → seen ≡ entries → found ≡ first_fault seen → found ≡ fault → first_fault entries ≡ fault
fault_found entries seen found fault same first is = ap first_fault (sym same) ∙ sym first ∙ is
