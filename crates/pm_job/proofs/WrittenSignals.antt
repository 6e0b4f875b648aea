-- The signals that lines declare are those that the lines are written for.
use Rattle.std.proofs.Common.{◌≡◌, ◌<◌, ◌^◌, ◌++◌, ℕ, true, not, List, [], ◌∷◌, All, map, refl, ap, ap₂, sym, subst, ◌∙◌, arith}
use Rattle.std.specs.Prelude.{Option, None, Some, codes, decimal, nat_le}
use Rattle.std.specs.List.{list_all}
use Rattle.std.specs.Str.{bytes_eq}
use Rattle.std.proofs.lemmas.Bool.{and_parts, leb-true, not-false}
use Rattle.std.proofs.lemmas.List.{append_assoc}
use Rattle.std.proofs.lemmas.List.Elements.{All-nil, All-cons, All-head, All-tail}
use Rattle.std.proofs.lemmas.Option.{option_and_then_some}
use Rattle.std.proofs.lemmas.Slice.Eq.{bytes_eq-Decides}
use Rattle.pm_design.specs.declared.signal.Role.{Role}
use Rattle.pm_design.specs.declared.signal.Role.TheVariants as role
use Rattle.pm_design.specs.declared.signal.Signal.{Signal}
use Rattle.pm_job.specs.Words.{blank, is_blank, without_prefix}
use Rattle.pm_job.specs.Sound.{is_width, widths_of}
use Rattle.pm_job.specs.Spelling.{cut, is_new_name, role_of, numeral_below}
use Rattle.pm_job.specs.Form.{declaration_of, signal_of, declared, after_declared}
use Rattle.pm_job.specs.WrittenForm.{port_of, declaration_line, IsDeclared}
use Rattle.pm_job.proofs.FormReads.{declared_more, after_more, declared_none, after_none}
use Rattle.pm_job.proofs.Headers.{without_prefix_some}
use Rattle.pm_job.proofs.WrittenParts.{HasNoBlank, option_map_some, where_true, where_false, where_same, cut_some, cut-append, no_blanks, new_name_has_no_blank, numeral_below_some, numeral_below-decimal, decimal_has_no_blank}

-- ---- roles

-- a kind of port that is read is that of the role
role_of_some : (word : List ℕ) (kind : Role) → role_of word ≡ Some kind → word ≡ port_of kind ++ codes "("
unfolding role_of
role_of_some word kind is =
    where_same word (codes "InPort(") role.Input kind _ is (λ here same. here ∙ ap (λ (k : Role). port_of k ++ codes "(") same) (λ no_input.
    where_same word (codes "OutPort(") role.Output kind _ no_input (λ here same. here ∙ ap (λ (k : Role). port_of k ++ codes "(") same) (λ no_output.
    where_same word (codes "Wire(") role.Inner kind _ no_output (λ here same. here ∙ ap (λ (k : Role). port_of k ++ codes "(") same) (λ none.
    absurd (cc))))

-- the role of a kind of port
role_of-port : (kind : Role) → role_of (port_of kind ++ codes "(") ≡ Some kind
unfolding role_of
role_of-port role.Input = refl
role_of-port role.Output = refl
role_of-port role.Inner = refl

port_has_no_blank : (kind : Role) → HasNoBlank (port_of kind ++ codes "(")
port_has_no_blank role.Input = no_blanks (λ byte. not (is_blank byte)) refl (codes "InPort(") refl
port_has_no_blank role.Output = no_blanks (λ byte. not (is_blank byte)) refl (codes "OutPort(") refl
port_has_no_blank role.Inner = no_blanks (λ byte. not (is_blank byte)) refl (codes "Wire(") refl

-- ---- one line

-- the parts of a line that declares a signal, as they are cut off from the start on
abbrev parts_joined : List ℕ → List ℕ → List ℕ → List ℕ
parts_joined name port width = codes "    s." ++ (name ++ blank ∷ (codes "= " ++ (port ++ blank ∷ (width ++ blank ∷ codes ")"))))

declaration_line-parts : (signal : Signal)
    → declaration_line signal ≡ parts_joined signal.name (port_of signal.role ++ codes "(") (decimal signal.width)
declaration_line-parts signal = simp append_assoc

-- a signal of these parts is one that may be declared
signal_of_some : (name port width : List ℕ) (signal : Signal) → signal_of name port width ≡ Some signal
    → (name ≡ signal.name) × (port ≡ port_of signal.role ++ codes "(") × (width ≡ decimal signal.width) × IsDeclared signal
signal_of_some name port width signal is =
    let new = where_false (not (is_new_name name)) _ signal is in
    option_and_then_some _ (role_of port) signal new.1 (λ kind at_port rest.
    option_map_some _ (numeral_below (2 ^ 32) width) signal rest (λ number at_width same.
    subst (λ (s : Signal). (name ≡ s.name) × (port ≡ port_of s.role ++ codes "(") × (width ≡ decimal s.width) × IsDeclared s) same (
      refl,
      role_of_some port kind at_port,
      (numeral_below_some (2 ^ 32) width number (omega arith) at_width).0,
      record { name = not-false (is_new_name name) new.0; plain = refl },
    )))

signal_of-declared : (signal : Signal) → IsDeclared signal → signal.width < 2 ^ 32
    → signal_of signal.name (port_of signal.role ++ codes "(") (decimal signal.width) ≡ Some signal
signal_of-declared signal may low =
    rw (may.name, role_of-port signal.role, numeral_below-decimal (2 ^ 32) signal.width (omega arith) low)
    (ap (λ (shape : Option _). Some (record { name = signal.name; role = signal.role; width = signal.width; shape = shape })) (sym may.plain))

joined : (line text name after_name rest port without_prefix_port width close : List ℕ) → line ≡ codes "    s." ++ text → text ≡ name ++ blank ∷ after_name
    → after_name ≡ codes "= " ++ rest → rest ≡ port ++ blank ∷ without_prefix_port → without_prefix_port ≡ width ++ blank ∷ close → close ≡ codes ")"
    → line ≡ parts_joined name port width
joined line text name after_name rest port without_prefix_port width close one two three four five six = rw (one, two, three, four, five, six) refl

-- a line that declares a signal is the one that is written for it
declaration_of_some : (line : List ℕ) (signal : Signal) → declaration_of line ≡ Some signal → (line ≡ declaration_line signal) × IsDeclared signal
unfolding declaration_of
declaration_of_some line signal is =
    option_and_then_some _ (without_prefix (codes "    s.") line) signal is (λ text one at_text.
    option_and_then_some _ (cut text) signal at_text (λ name two at_name.
    option_and_then_some _ (without_prefix (codes "= ") name.1) signal at_name (λ rest three at_rest.
    option_and_then_some _ (cut rest) signal at_rest (λ port four at_port.
    option_and_then_some _ (cut port.1) signal at_port (λ width five at_width.
    let closed = where_true (bytes_eq width.1 (codes ")")) (signal_of name.0 port.0 width.0) signal at_width in
    let parts = signal_of_some name.0 port.0 width.0 signal closed.1 in
    let whole = joined line text name.0 name.1 rest port.0 port.1 width.0 width.1
    (without_prefix_some (codes "    s.") line text one) (cut_some text name two)
    (without_prefix_some (codes "= ") name.1 rest three) (cut_some rest port four) (cut_some port.1 width five)
    ((bytes_eq-Decides width.1 (codes ")")).0 closed.0) in
    (whole ∙ rw (parts.0, parts.1, parts.2) (sym (declaration_line-parts signal)), parts.3))))))

declaration_of-parts : (name port width : List ℕ) → HasNoBlank name → HasNoBlank port → HasNoBlank width
    → declaration_of (parts_joined name port width) ≡ signal_of name port width
unfolding declaration_of
declaration_of-parts name port width no_name no_port no_width = rw (cut-append, cut-append, cut-append) refl

-- what is written for a signal declares it
declaration_of-line : (signal : Signal) → IsDeclared signal → signal.width < 2 ^ 32 → declaration_of (declaration_line signal) ≡ Some signal
declaration_of-line signal may low =
    rw (declaration_line-parts signal)
    (declaration_of-parts signal.name (port_of signal.role ++ codes "(") (decimal signal.width)
    (new_name_has_no_blank signal.name may.name) (port_has_no_blank signal.role) (decimal_has_no_blank signal.width (omega arith))
    ∙ signal_of-declared signal may low)

-- ---- all lines

-- the lines are those of the signals that they declare, and others after them
pub record AreDeclared (lines : List (List ℕ)) (signals : List Signal) (others : List (List ℕ)) : Type 0 where
  pub whole : lines ≡ map declaration_line signals ++ others
  pub each : All IsDeclared signals

declared_more_lines : (line : List ℕ) (lines : List (List ℕ)) (found : Option Signal) → declaration_of line ≡ found
    → AreDeclared lines (declared lines) (after_declared lines)
    → AreDeclared (line ∷ lines) (declared (line ∷ lines)) (after_declared (line ∷ lines))
declared_more_lines line lines None none rest =
    rw (declared_none (line ∷ lines) lines line refl none, after_none (line ∷ lines) lines line refl none)
    (record { whole = refl; each = All-nil IsDeclared })
declared_more_lines line lines (Some signal) found rest =
    let one = declaration_of_some line signal found in
    rw (declared_more (line ∷ lines) lines line signal refl found, after_more (line ∷ lines) lines line signal refl found)
    (record {
      whole = ap₂ (λ (l : List ℕ) (ls : List (List ℕ)). l ∷ ls) one.0 rest.whole;
      each = All-cons IsDeclared signal (declared lines) one.1 rest.each;
    })

-- lines are those that are written for the signals that they declare, and what stands after them
pub declared_lines : (lines : List (List ℕ)) → AreDeclared lines (declared lines) (after_declared lines)
unfolding declared after_declared
declared_lines [] = record { whole = refl; each = All-nil IsDeclared }
declared_lines (line ∷ lines) = declared_more_lines line lines (declaration_of line) refl (declared_lines lines)

width_is_low : (width : ℕ) → is_width width ≡ true → width < 2 ^ 32
width_is_low width is = let parts = and_parts (nat_le 1 width) (nat_le width 128) is in let low = leb-true width 128 parts.1 in omega arith

-- what is written for signals declares them, and others stand after them
pub declared-lines : (signals : List Signal) (others : List (List ℕ)) → All IsDeclared signals → list_all is_width (widths_of signals) ≡ true
    → declared others ≡ [] → after_declared others ≡ others
    → (declared (map declaration_line signals ++ others) ≡ signals) × (after_declared (map declaration_line signals ++ others) ≡ others)
declared-lines [] others may wide none after = (none, after)
declared-lines (signal ∷ signals) others may wide none after =
    let widths = and_parts (is_width signal.width) (list_all is_width (widths_of signals)) wide in
    let here = declaration_of-line signal (All-head IsDeclared signal signals may) (width_is_low signal.width widths.0) in
    let more = declared-lines signals others (All-tail IsDeclared signal signals may) widths.1 none after in
    let rest = map declaration_line signals ++ others in (
      declared_more (declaration_line signal ∷ rest) rest (declaration_line signal) signal refl here ∙ ap (λ (s : List Signal). signal ∷ s) more.0,
      after_more (declaration_line signal ∷ rest) rest (declaration_line signal) signal refl here ∙ more.1,
    )

-- the first line of a block declares no signal
pub declaration_of-decorator : declaration_of (codes "    @update") ≡ None
unfolding declaration_of
declaration_of-decorator = refl
