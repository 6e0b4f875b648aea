-- A file that a text gives declares proper names.
use Rattle.std.proofs.Common.{ℕ, IsTrue, List, [], ◌∷◌, subst, All, refl}
use Rattle.std.specs.Prelude.{drop}
use Rattle.std.specs.List.{list_all}
use Rattle.std.proofs.lemmas.Bool.{and_from}
use Rattle.std.proofs.lemmas.List.Elements.{All-cons, All-head, All-nil, All-tail}
use Rattle.pm_syn.specs.CutLines.{IsCutFrom, IsLineOf}
use Rattle.pm_syn.specs.Names.{is_proper_name}
use Rattle.pm_syn.specs.Tokens.{IsToken}
use Rattle.pm_syn.specs.declared.token.Line.{Line}
use Rattle.pm_syn.specs.declared.token.Token.{Token}
use Rattle.pm_syn.specs.declared.token.TokenKind.{TokenKind}
use Rattle.pm_syn.proofs.CutFromText.{lines_cut}
use Rattle.pm_parse.specs.FileNames.{HasSpelledNames, IsProperName, IsSpelledAsKind}
use Rattle.pm_parse.proofs.FileNames.{files_have_proper_names}
use Rattle.pm_elab_laws.proofs.Given.{designs_sound}
use Rattle.pm_file_laws.specs.Files.{DesignsOfTextsAreSound, FilesDeclareProperNames}
use Rattle.pm_file_laws.proofs.DeclaredNames.{trees_proper}

-- ---- lines

-- a token that is cut from a text
token_spelled : (text : List ℕ) (t : Token) → IsCutFrom text t → IsSpelledAsKind t
token_spelled text t cut same = subst (λ (k : TokenKind). IsToken k t.text (drop t.end text)) same cut.longest.spelled

-- each token
tokens_spelled : (text : List ℕ) (ts : List Token) → All (IsCutFrom text) ts → All IsSpelledAsKind ts
tokens_spelled text [] all = All-nil IsSpelledAsKind
tokens_spelled text (t ∷ ts) all =
    All-cons IsSpelledAsKind t ts (token_spelled text t (All-head (IsCutFrom text) t ts all))
    (tokens_spelled text ts (All-tail (IsCutFrom text) t ts all))

-- each line
lines_spelled : (text : List ℕ) (lines : List Line) → All (IsLineOf text) lines → All HasSpelledNames lines
lines_spelled text [] all = All-nil HasSpelledNames
lines_spelled text (line ∷ lines) all =
    All-cons HasSpelledNames line lines (tokens_spelled text line.tokens (All-head (IsLineOf text) line lines all).cut)
    (lines_spelled text lines (All-tail (IsLineOf text) line lines all))

-- ---- files

-- names that are all proper
all_are : (names : List (List ℕ)) → All IsProperName names → IsTrue (list_all is_proper_name names)
all_are [] all = refl
all_are (name ∷ names) all =
    and_from (is_proper_name name) (list_all is_proper_name names) (All-head IsProperName name names all)
    (all_are names (All-tail IsProperName name names all))

-- the names that a file declares
pub files_declare_proper_names : FilesDeclareProperNames
files_declare_proper_names text file is =
    let spelled = lines_spelled text is.lines (lines_cut text is.lines is.read).each in
    all_are _ (trees_proper file.nodes (files_have_proper_names is.lines file spelled is.parsed))

-- the design that it gives
pub designs_of_texts_are_sound : DesignsOfTextsAreSound
designs_of_texts_are_sound text file name params given is good built =
    designs_sound file.nodes name params given (files_declare_proper_names text file is) good built
