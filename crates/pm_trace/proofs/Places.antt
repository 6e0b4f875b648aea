-- What the words of a header name.
use Rattle.std.proofs.Common.{◌≡◌, ◌∙◌, ◌++◌, ℕ, Bool, true, false, List, [], ◌∷◌, map, refl, ap, ap₂, sym, inl, inr, append_assoc, append-nil}
use Rattle.std.specs.Prelude.{Ok, Err, Option, Some, None, not, is_some, find, ◌&&◌, ◌||◌, if◌then◌else◌}
use Rattle.std.specs.Str.{bytes_eq}
use Rattle.std.proofs.lemmas.Bool.{cases_Bool}
use Rattle.std.proofs.lemmas.List.{map-append}
use Rattle.std.proofs.lemmas.List.Folds.{list_any-append}
use Rattle.std.proofs.lemmas.Slice.Eq.{bytes_eq-Decides}
use Rattle.name_places.specs.Places.{FindsPlaces}
use Rattle.pm_values.specs.Tables as Table
use Rattle.pm_values.specs.Tables.{get, put}
use Rattle.pm_values.proofs.Tables.{put_is_found, others_stay}
use Rattle.pm_trace.specs.Headers.{HasWords, Names, ReadsColumns, ReadsHeader, first_missing, first_wrong, is_among, new_place, or_else, place_of, unnamed, wrong_word}
use Rattle.pm_trace.specs.declared.fault.HeadFault.{HeadFault}
use Rattle.pm_trace.specs.declared.fault.HeadFault.TheVariants as fault
use Rattle.pm_trace.specs.declared.header.Columns.{Columns}
use Rattle.pm_trace.specs.Words.{words_of}
use Rattle.pm_trace.proofs.Steps.{nothing}

-- the places of names are looked up
abbrev Finds : List (List ℕ) → Table.Names ℕ → Type 0
Finds names places = FindsPlaces (λ (name : List ℕ). name) names places

-- ---- the words so far

or_true : (b : Bool) → (b || (true || false)) ≡ true
or_true true = refl
or_true false = refl

or_false : (b : Bool) → (b || (false || false)) ≡ b
or_false true = refl
or_false false = refl

-- the table has one word more
pub one_more_word : (table more : Table.Names (Unit {0})) (words : List (List ℕ)) (word : List ℕ)
    → HasWords table words → more ≡ put table word tt
    → HasWords more (words ++ word ∷ [])
one_more_word table more words word has is other = elim (cases_Bool (bytes_eq other word)) [
  | inl same ↦
      let one : word ≡ other = sym ((bytes_eq-Decides other word).0 same) in
      let found : get more other ≡ Some tt = ap (λ (t : Table.Names (Unit {0})). get t other) is
      ∙ ap (get (put table word tt)) (sym one) ∙ put_is_found table word tt in
      ap (λ (o : Option (Unit {0})). is_some o) found
      ∙ sym (list_any-append (bytes_eq other) words (word ∷ [])
      ∙ ap (λ (b : Bool). is_among other words || (b || false)) same ∙ or_true (is_among other words))
  | inr differ ↦
      let stays : get more other ≡ get table other = ap (λ (t : Table.Names (Unit {0})). get t other) is
      ∙ others_stay table word other tt differ in
      ap (λ (o : Option (Unit {0})). is_some o) stays ∙ has other
      ∙ sym (list_any-append (bytes_eq other) words (word ∷ [])
      ∙ ap (λ (b : Bool). is_among other words || (b || false)) differ ∙ or_false (is_among other words))
]

-- ---- word by word

-- the words so far have these places and are in the table, and the rest of the line decides
pub record IsReadSoFar (names : List (List ℕ)) (line rest : List ℕ) (port_of : List ℕ)
    (table : Table.Names (Unit {0})) : Type 0 where
  pub earlier : List (List ℕ)
  pub words : earlier ++ words_of rest ≡ words_of line
  pub wrong : first_wrong names earlier (words_of rest) ≡ first_wrong names [] (words_of line)
  pub named : map Some port_of ≡ map (place_of names) earlier
  pub kept : HasWords table earlier

pub none_read : (names : List (List ℕ)) (line : List ℕ) → IsReadSoFar names line line [] []
none_read names line = record { earlier = []; words = refl; wrong = refl; named = refl; kept = λ word. refl }

new_by : (known : Bool) (there : Option ℕ) (place : ℕ) → (if known then None else there) ≡ Some place
    → (known ≡ false) × (there ≡ Some place)
new_by true there place new = absurd (nothing place new)
new_by false there place new = (refl, new)

-- one more word
pub word_read : (names : List (List ℕ)) (line rest after : List ℕ) (port_of ports : List ℕ)
    (places : Table.Names ℕ) (table more : Table.Names (Unit {0})) (word : List ℕ) (place : ℕ)
    → Finds names places → IsReadSoFar names line rest port_of table → words_of rest ≡ word ∷ words_of after
    → new_place places table word ≡ Some place
    → ports ≡ port_of ++ place ∷ [] → more ≡ put table word tt → IsReadSoFar names line after ports more
unfolding first_wrong
word_read names line rest after port_of ports places table more word place finds so_far cut new is has =
    let both = new_by (is_some (get table word)) (get places word) place new in
    let there : place_of names word ≡ Some place = sym (finds word) ∙ both.1 in
    let fresh : is_among word so_far.earlier ≡ false = sym (so_far.kept word) ∙ both.0 in
    let next : first_wrong names so_far.earlier (word ∷ words_of after) ≡ first_wrong names
    (so_far.earlier ++ word ∷ []) (words_of after) =
    rw (there, fresh) refl in
    record {
      earlier = so_far.earlier ++ word ∷ [];
      words = append_assoc so_far.earlier (word ∷ []) (words_of after)
          ∙ ap (λ (ws : List (List ℕ)). so_far.earlier ++ ws) (sym cut) ∙ so_far.words;
      wrong = sym next ∙ ap (first_wrong names so_far.earlier) (sym cut) ∙ so_far.wrong;
      named = ap (map Some) is ∙ map-append Some port_of (place ∷ [])
          ∙ ap₂ (λ (xs ys : List (Option ℕ)). xs ++ ys) so_far.named (ap (λ (o : Option ℕ). o ∷ []) (sym there))
          ∙ sym (map-append (place_of names) so_far.earlier (word ∷ []));
      kept = one_more_word table more so_far.earlier word so_far.kept has;
    }

old_by : (known : Bool) (there : Option ℕ) → (if known then None else there) ≡ None
    → (is_some there && not known) ≡ false
old_by true None old = refl
old_by true (Some place) old = refl
old_by false None old = refl
old_by false (Some place) old = absurd (nothing place (sym old))

-- a word that is wrong
pub word_fails : (names : List (List ℕ)) (line rest after : List ℕ) (port_of : List ℕ)
    (places : Table.Names ℕ) (table : Table.Names (Unit {0})) (word : List ℕ)
    → Finds names places → IsReadSoFar names line rest port_of table → words_of rest ≡ word ∷ words_of after
    → new_place places table word ≡ None
    → first_wrong names [] (words_of line) ≡ Some word
unfolding first_wrong
word_fails names line rest after port_of places table word finds so_far cut old =
    let fails : (is_some (place_of names word) && not (is_among word so_far.earlier)) ≡ false =
    ap₂ (λ (o : Option ℕ) (b : Bool). is_some o && not b) (sym (finds word)) (sym (so_far.kept word))
    ∙ old_by (is_some (get table word)) (get places word) old in
    sym so_far.wrong ∙ ap (first_wrong names so_far.earlier) cut ∙ rw fails refl

-- no word is left
pub words_done : (names : List (List ℕ)) (line rest : List ℕ) (port_of : List ℕ) (table : Table.Names (Unit {0}))
    → IsReadSoFar names line rest port_of table → words_of rest ≡ []
    → (first_wrong names [] (words_of line) ≡ None) × (map Some port_of ≡ map (place_of names) (words_of line))
    × HasWords table (words_of line)
unfolding first_wrong
words_done names line rest port_of table so_far done =
    let all : so_far.earlier ≡ words_of line =
    sym (append-nil so_far.earlier) ∙ ap (λ (ws : List (List ℕ)). so_far.earlier ++ ws) (sym done) ∙ so_far.words in (
      sym so_far.wrong ∙ ap (first_wrong names so_far.earlier) done,
      so_far.named ∙ ap (map (place_of names)) all,
      λ word. so_far.kept word ∙ ap (is_among word) all,
    )

-- ---- what is missing

found_alike : (one other : List ℕ → Bool) (names : List (List ℕ)) → ((name : List ℕ) → one name ≡ other name)
    → find one names ≡ find other names
found_alike one other [] alike = refl
found_alike one other (name ∷ names) alike =
    ap₂ (λ (b : Bool) (o : Option (List ℕ)). if b then Some name else o) (alike name)
    (found_alike one other names alike)

-- the first input that isn't in the table is the first that is missing
pub missing_found : (names words : List (List ℕ)) (table : Table.Names (Unit {0})) → HasWords table words
    → unnamed table names ≡ first_missing names words
unfolding unnamed first_missing
missing_found names words table has =
    found_alike (λ (name : List ℕ). not (is_some (get table name))) (λ (name : List ℕ). not (is_among name words)) names
    (λ name. ap not (has name))

-- ---- what is answered

pub wrong_answered : (names : List (List ℕ)) (line word : List ℕ) (error : HeadFault) → Names word error
    → first_wrong names [] (words_of line) ≡ Some word → ReadsColumns names line (Err error)
wrong_answered names line word (fault.BadHeader named) is wrong = wrong ∙ ap (λ (w : List ℕ). Some w) (sym is)
wrong_answered names line word fault.NoMemory is wrong = tt

pub no_header : (names : List (List ℕ)) (line : List ℕ) (error : HeadFault) → ReadsColumns names line (Err error)
    → ReadsHeader names line (Err error)
unfolding wrong_word
no_header names line (fault.BadHeader word) is =
    ap (λ (o : Option (List ℕ)). or_else o (first_missing names (words_of line))) is
no_header names line fault.NoMemory is = tt

pub missing_answered : (names : List (List ℕ)) (line word : List ℕ) (columns : Columns) (error : HeadFault)
    → ReadsColumns names line (Ok columns)
    → unnamed columns.words names ≡ Some word → Names word error → ReadsHeader names line (Err error)
unfolding wrong_word
missing_answered names line word columns (fault.BadHeader named) read missing is =
    ap (λ (o : Option (List ℕ)). or_else o (first_missing names (words_of line))) read.0
    ∙ sym (missing_found names (words_of line) columns.words read.2) ∙ missing ∙ ap (λ (w : List ℕ). Some w) (sym is)
missing_answered names line word columns fault.NoMemory read missing is = tt

pub header_answered : (names : List (List ℕ)) (line : List ℕ) (columns : Columns)
    → ReadsColumns names line (Ok columns)
    → unnamed columns.words names ≡ None → ReadsHeader names line (Ok (record { port_of = columns.port_of }))
unfolding wrong_word
header_answered names line columns read missing = (
  ap (λ (o : Option (List ℕ)). or_else o (first_missing names (words_of line))) read.0
      ∙ sym (missing_found names (words_of line) columns.words read.2) ∙ missing,
  read.1,
)
