-- The job that is read of words is the one that they ask for, and every job that they ask for is read.
use Rattle.std.proofs.Common.{◌≡◌, ◌≤◌, ◌∙◌, ℕ, List, [], ◌∷◌, refl, inl, inr, ap, sym, subst, arith}
use Rattle.std.specs.Prelude.{Option, Some, None, IfSome, nat_le, codes}
use Rattle.std.specs.Str.{bytes_eq}
use Rattle.std.proofs.lemmas.Bool.Decides.{nat_tests}
use Rattle.std.proofs.lemmas.Bool.{cases_Bool}
use Rattle.pm_words.specs.Readings.{action_of, cycles_in, job_by, job_in, operand_in, options_of, order_of, number_of, params_of, reset_of, simulation_of, target_alone, target_of, target_with}
use Rattle.pm_words.specs.Words.{AreOptions, Entries, HasNoOptions, IsJob, IsOperand, IsReset, IsTarget, OneJobAtMost, entries_of}
use Rattle.pm_words.specs.Command.{found_in}
use Rattle.pm_words.specs.declared.action.Action.{Action}
use Rattle.pm_words.specs.declared.action.Action.TheVariants as action
use Rattle.pm_words.specs.declared.job.Job.{Job}
use Rattle.pm_words.specs.declared.job.Job.TheVariants as job
use Rattle.pm_words.specs.declared.job.Options.{Options}
use Rattle.pm_words.specs.declared.job.Target.{Target}
use Rattle.pm_words.proofs.Meanings.{number_read, operand_read, params_read, to_number, to_operand, to_params}
use Rattle.pm_words.proofs.Steps.{bytes_eq_to, mapped, nothing, same_some, step_to, stepped, test_to, tested}

-- ---- targets

target_read : (words : List (List ℕ)) (target : Target) → target_of words ≡ Some target → IsTarget target words
unfolding target_of target_with
target_read [] target is = absurd (nothing target is)
target_read (file ∷ []) target is = absurd (nothing target is)
target_read (file ∷ class ∷ assignments) target is =
    let one = stepped (operand_in file) _ target is in
    let two = stepped (operand_in class) _ target one.2 in
    let all = stepped (params_of assignments) _ target two.2 in
    let named = operand_read file one.0 one.1 in
    let classed = operand_read class two.0 two.1 in
    let made : record { file = one.0; class = two.0; params = all.0 } ≡ target = same_some _ target all.2 in
    subst (λ (t : Target). IsTarget t (file ∷ class ∷ assignments)) made (record {
      assignments = assignments;
      words_are = ap (λ (f : List ℕ). f ∷ class ∷ assignments) (sym named.1)
          ∙ ap (λ (c : List ℕ). one.0 ∷ c ∷ assignments) (sym classed.1);
      file = named.0;
      class = classed.0;
      params = params_read assignments all.0 all.1;
    })

to_target : (words : List (List ℕ)) (target : Target) → IsTarget target words → target_of words ≡ Some target
unfolding target_of target_with
to_target words target is =
    rw (
      is.words_are,
      to_operand target.file is.file,
      to_operand target.class is.class,
      to_params is.assignments target.params is.params,
    ) refl

-- ---- options

order_read : (given order : Option (List ℕ)) → order_of given ≡ Some order → (order ≡ given) × IfSome given IsOperand
unfolding order_of
order_read None order is = (sym (same_some None order is), tt)
order_read (Some word) order is =
    let name = mapped (operand_in word) (λ (name : List ℕ). Some name) order is in
    let read = operand_read word name.0 name.1 in
    (sym name.2 ∙ ap (λ (w : List ℕ). Some w) read.1, subst IsOperand read.1 read.0)

to_order : (given : Option (List ℕ)) → IfSome given IsOperand → order_of given ≡ Some given
unfolding order_of
to_order None is = refl
to_order (Some word) is = rw (to_operand word is) refl

reset_read : (given : Option (List ℕ)) (cycles : ℕ) → reset_of given ≡ Some cycles → IsReset cycles given
unfolding reset_of cycles_in
reset_read None cycles is = sym (same_some 2 cycles is)
reset_read (Some word) cycles is =
    let number = stepped (number_of word) cycles_in cycles is in
    let test = tested (nat_le number.0 1000) number.0 cycles number.2 in
    let low : number.0 ≤ 1000 = grind (arith, nat_tests, test.0) in
    let both : IsReset number.0 (Some word) = (number_read word number.0 number.1, low) in
    subst (λ (n : ℕ). IsReset n (Some word)) test.1 both

to_reset : (given : Option (List ℕ)) (cycles : ℕ) → IsReset cycles given → reset_of given ≡ Some cycles
unfolding reset_of cycles_in
to_reset None cycles is = ap (λ (n : ℕ). Some n) (sym is)
to_reset (Some word) cycles is =
    step_to (number_of word) cycles_in cycles cycles (to_number word cycles is.0 (omega (arith, is.1)))
    (test_to _ _ (grind (arith, nat_tests, is.1)))

options_read : (entries : Entries) (options : Options) → options_of entries ≡ Some options → AreOptions options entries
unfolding options_of
options_read entries options is =
    let reset = stepped (reset_of entries.reset) _ options is in
    let order = stepped (order_of entries.order) _ options reset.2 in
    let read = order_read entries.order order.0 order.1 in
    let made : record { order = order.0; reset = reset.0 } ≡ options = same_some _ options order.2 in
    subst (λ (o : Options). AreOptions o entries) made (record {
      order = read.0;
      named = read.1;
      reset = reset_read entries.reset reset.0 reset.1;
    })

to_options : (entries : Entries) (options : Options) → AreOptions options entries → options_of entries ≡ Some options
unfolding options_of
to_options entries options is =
    rw (to_reset entries.reset options.reset is.reset, to_order entries.order is.named, is.order) refl

-- ---- jobs

alone_by : (order reset : Option (List ℕ)) (rest : List (List ℕ)) (target : Target)
    → target_alone (record { action = None; rest = rest; order = order; reset = reset }) ≡ Some target
    → IsTarget target rest × (order ≡ None) × (reset ≡ None)
unfolding target_alone
alone_by (Some word) reset rest target is = absurd (nothing target is)
alone_by None (Some word) rest target is = absurd (nothing target is)
alone_by None None rest target is = (target_read rest target is, refl, refl)

alone_read : (entries : Entries) (target : Target) → target_alone entries ≡ Some target → IsTarget target entries.rest
    × HasNoOptions entries
unfolding target_alone
alone_read entries target is = let parts = alone_by entries.order entries.reset entries.rest target is in
    (parts.0, (parts.1, parts.2))

to_alone : (entries : Entries) (target : Target) → IsTarget target entries.rest → HasNoOptions entries
    → target_alone entries ≡ Some target
unfolding target_alone
to_alone entries target is none = rw (none.0, none.1) (to_target entries.rest target is)

-- the name of an action
abbrev name_of : Action → List ℕ
name_of action.Check = codes "check"
name_of action.Order = codes "order"
name_of action.Sim = codes "sim"

action_read : (word : List ℕ) (named : Action) → action_of word ≡ Some named → word ≡ name_of named
unfolding action_of
action_read word named is = elim (cases_Bool (bytes_eq word (codes "check"))) [
  | inl check ↦ bytes_eq_to word (codes "check") check ∙ ap name_of (same_some action.Check named (rw check at is))
  | inr no_check ↦ elim (cases_Bool (bytes_eq word (codes "order"))) [
    | inl order ↦ bytes_eq_to word (codes "order") order
        ∙ ap name_of (same_some action.Order named (rw (no_check, order) at is))
    | inr no_order ↦ elim (cases_Bool (bytes_eq word (codes "sim"))) [
      | inl sim ↦ bytes_eq_to word (codes "sim") sim
          ∙ ap name_of (same_some action.Sim named (rw (no_check, no_order, sim) at is))
      | inr no_sim ↦ absurd (nothing named (rw (no_check, no_order, no_sim) at is))
    ]
  ]
]

job_by_read : (named : Action) (entries : Entries) (asked : Job) → job_by named entries ≡ Some asked
    → entries.action ≡ Some (name_of named) → IsJob asked entries
unfolding job_by simulation_of
job_by_read action.Check entries asked is action_is =
    let target = mapped (target_alone entries) job.Check asked is in
    let read = alone_read entries target.0 target.1 in
    let meant : IsJob (job.Check target.0) entries = (action_is, read.0, read.1) in
    subst (λ (j : Job). IsJob j entries) target.2 meant
job_by_read action.Order entries asked is action_is =
    let target = mapped (target_alone entries) job.Order asked is in
    let read = alone_read entries target.0 target.1 in
    let meant : IsJob (job.Order target.0) entries = (action_is, read.0, read.1) in
    subst (λ (j : Job). IsJob j entries) target.2 meant
job_by_read action.Sim entries asked is action_is =
    let options = stepped (options_of entries) _ asked is in
    let target = stepped (target_of entries.rest) _ asked options.2 in
    let meant : IsJob (job.Sim target.0 options.0) entries =
    (action_is, target_read entries.rest target.0 target.1, options_read entries options.0 options.1) in
    subst (λ (j : Job). IsJob j entries) (same_some (job.Sim target.0 options.0) asked target.2) meant

pub job_read : (entries : Entries) (asked : Job) → job_in entries ≡ Some asked → IsJob asked entries
unfolding job_in
job_read entries asked is =
    let word = stepped entries.action _ asked is in
    let named = stepped (action_of word.0) _ asked word.2 in
    job_by_read named.0 entries asked named.2
    (word.1 ∙ ap (λ (w : List ℕ). Some w) (action_read word.0 named.0 named.1))

pub to_job : (entries : Entries) (asked : Job) → IsJob asked entries → job_in entries ≡ Some asked
unfolding job_in action_of job_by simulation_of target_alone options_of
to_job entries (job.Check target) is = rw (is.0, to_alone entries target is.1 is.2) refl
to_job entries (job.Order target) is = rw (is.0, to_alone entries target is.1 is.2) refl
to_job entries (job.Sim target options) is =
    rw (is.0, to_options entries options is.2, to_target entries.rest target is.1) refl

-- words ask for at most one job
pub one_job_at_most : OneJobAtMost
one_job_at_most words one other asks too =
    same_some one other
    (sym (to_job (entries_of (found_in words)) one asks.1) ∙ to_job (entries_of (found_in words)) other too.1)
