-- The functions of the language give no component.
use Rattle.std.proofs.Common.{◌≡◌, ◌∙◌, ◌&&◌, ℕ, ℤ, true, List, [], ◌∷◌, sym, ap, length}
use Rattle.std.specs.Prelude.{Ok, Err, codes, pos, negsuc, nat_le}
use Rattle.pm_design.specs.declared.connection.Callee.{Callee}
use Rattle.pm_design.specs.declared.connection.Callee.TheVariants as callee
use Rattle.pm_design.specs.declared.connection.Part.{Part}
use Rattle.pm_design.specs.declared.connection.Term.{Term}
use Rattle.pm_design.specs.declared.connection.Term.TheVariants as term
use Rattle.pm_design.specs.declared.signal.Role.{Role}
use Rattle.pm_design.specs.declared.signal.Role.TheVariants.{Input, Output, Inner}
use Rattle.pm_values.specs.declared.fault.BuildFault.TheVariants.{IntRange}
use Rattle.pm_values.specs.declared.reference.ValueType.{ValueType}
use Rattle.pm_values.specs.declared.value.Member.{Member}
use Rattle.pm_values.specs.declared.value.New.TheVariants as new
use Rattle.pm_values.specs.declared.value.Taken.TheVariants as taken
use Rattle.pm_values.specs.declared.value.Value.{Value, Value-F, out-Value}
use Rattle.pm_values.specs.declared.value.Value.TheVariants as value
use Rattle.pm_values.specs.Integers.{ceiling_log}
use Rattle.pm_elab.specs.declared.call.Given.{Given}
use Rattle.pm_elab.specs.declared.function.Function.{Function}
use Rattle.pm_elab.specs.declared.function.Function.TheVariants as function
use Rattle.pm_elab.specs.Elab.{Checked, and_then, or_else}
use Rattle.pm_elab.specs.Functions.{called, only, both, signal_of, new_signal, make_bits, number, ceiling_log_of}
use Rattle.pm_elab.specs.Functions.{length_in, length_of, only_named, maxlen_in, deque_of, new_deque, name_either}
use Rattle.pm_elab.specs.Functions.{type_given, new_caller, method_of, callee_at, callee_of, new_callee, bits_term_at}
use Rattle.pm_elab.specs.Functions.{readers_of, readers_term, writers_of, writers_term, callers_at, callers_of}
use Rattle.pm_elab.specs.Functions.{callers_term, no_block, no_value}
use Rattle.pm_elab.specs.Values.{int, list, bits_of_width, signal_type}
use Rattle.pm_elab_laws.specs.MadeValues.{is_made}
use Rattle.pm_elab_laws.proofs.Keeping.{On}
use Rattle.pm_elab_laws.proofs.Changes.{if_so}
use Rattle.pm_elab_laws.proofs.MadeValues.{rolled, made_new, made_int}

module _ (n : ℕ) where
  abbrev Made : Value → Type 0
  Made v = is_made n v ≡ true

  made_type : (t : ValueType) → Made (value.Type t)
  made_type t = ap (is_made n) (sym (value.rolls-Type t)) ∙ rolled n (Value-F.Type t)

  made_term : (t : Term) → Made (value.Term t)
  made_term t = ap (is_made n) (sym (value.rolls-Term t)) ∙ rolled n (Value-F.Term t)

  next : {A : Type 0} (r : Checked A) (f : A → Checked Value) → ((a : A) → On (f a) Made) → On (and_then r f) Made
  next (Ok a) f each = each a
  next (Err e) f each = tt

  signal_made : (role : Role) (t : ValueType) → On (signal_of role t) Made
  signal_made role t = made_new n (new.Signal role t)

  signals : (role : Role) (line : ℕ) (gs : List Given) → On (new_signal role line gs) Made
  unfolding new_signal
  signals role line [] = signal_made role _
  signals role line (g ∷ gs) = next (only line (g ∷ gs)) _ (λ v. next (signal_type line v) (signal_of role)
      (signal_made role))

  deques : (line : ℕ) (i : ℤ) → On (maxlen_in line i) Made
  deques line (pos d) = if_so Made (nat_le 1 d && nat_le d 64) (IntRange line) (Ok (value.New (new.Deque d)))
      (made_new n (new.Deque d))
  deques line (negsuc d) = tt

  methods : (line : ℕ) (c : Callee) → On (method_of line c) Made
  methods line (callee.Own m) = made_new n (new.Callee (callee.Own m))
  methods line (callee.Child k m) = made_new n (new.Callee (callee.Child k m))
  methods line (callee.Port p) = tt
  methods line (callee.ChildPort k p) = tt

  callees : (line : ℕ) (v : Value-F Value Member) → On (callee_at line v) Made
  callees line (Value-F.Taken (taken.Method c)) = methods line c
  callees line _ = tt

  bits : (blocks : Part → Term) (line : ℕ) (v : Value-F Value Member) → On (bits_term_at blocks line v) Made
  bits blocks line (Value-F.Taken (taken.Signal r)) = made_term (blocks r.part)
  bits blocks line (Value-F.Taken (taken.State s)) = made_term term.Wrong
  bits blocks line (Value-F.Taken taken.FarState) = made_term term.Wrong
  bits blocks line _ = tt

  calls : (line : ℕ) (v : Value-F Value Member) → On (callers_at line v) Made
  calls line (Value-F.Taken (taken.Method c)) = made_term (term.Calls c)
  calls line _ = tt

  -- what a function gives
  pub called_made : (f : Function) (line : ℕ) (gs : List Given) → On (called f line gs) Made
  unfolding called make_bits ceiling_log_of length_of length_in new_deque deque_of new_caller new_callee callee_of
      readers_term readers_of writers_term writers_of callers_term callers_of no_block no_value
  called_made function.InPort line gs = signals Input line gs
  called_made function.OutPort line gs = signals Output line gs
  called_made function.Wire line gs = signals Inner line gs
  called_made function.MakeBits line gs = next (only line gs) _ (λ v. next (int line v) _ (λ i. next (bits_of_width
      line i) _ made_type))
  called_made function.CeilingLog line gs = next (only line gs) _ (λ v. next (int line v) _
      (λ i. next (or_else (ceiling_log i) (IntRange line)) number (λ l. made_int n (pos l))))
  called_made function.Length line gs = next (only line gs) _ (λ v. next (list line v) _ (λ vs. made_int n
      (pos (length vs))))
  called_made function.Connect line gs = next (both line gs) _ (λ vs. tt)
  called_made function.Deque line gs = next (only_named line (codes "maxlen") gs) _ (λ v. next (int line v) _
      (deques line))
  called_made function.CallerPort line gs = if_so Made (name_either (codes "Type") (codes "RetType") gs) _ _
      (next (type_given line (codes "Type") gs) _ (λ t. next (type_given line (codes "RetType") gs) _ (λ r. made_new
      n (new.Caller (record { argument = t; result = r })))))
  called_made function.CalleePort line gs = next (only_named line (codes "method") gs) _ (λ v. callees line
      (out-Value v))
  called_made function.Block line gs = next (only line gs) _ (λ v. tt)
  called_made function.Readers line gs = next (only line gs) _ (λ v. bits term.Reads line (out-Value v))
  called_made function.Writers line gs = next (only line gs) _ (λ v. bits term.Writes line (out-Value v))
  called_made function.Callers line gs = next (only line gs) _ (λ v. calls line (out-Value v))
