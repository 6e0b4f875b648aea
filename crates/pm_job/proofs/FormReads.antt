-- How lines are read one after another as declarations and as blocks.
use Rattle.std.proofs.Common.{◌≡◌, ◌++◌, ℕ, List, [], ◌∷◌, refl, ap, sym, ◌∙◌}
use Rattle.std.specs.Prelude.{Option, None, Some, option_map}
use Rattle.std.proofs.lemmas.List.{append_assoc, append-nil}
use Rattle.pm_design.specs.declared.signal.Signal.{Signal}
use Rattle.pm_job.specs.declared.component.Assignment.{Assignment}
use Rattle.pm_job.specs.Form.{declaration_of, declared, after_declared, block_of, blocks_of}

-- a line that declares a signal
pub declared_more : (lines rest : List (List ℕ)) (line : List ℕ) (signal : Signal) → lines ≡ line ∷ rest → declaration_of line ≡ Some signal
    → declared lines ≡ signal ∷ declared rest
unfolding declared
declared_more lines rest line signal is found = rw (is, found) refl

pub after_more : (lines rest : List (List ℕ)) (line : List ℕ) (signal : Signal) → lines ≡ line ∷ rest → declaration_of line ≡ Some signal
    → after_declared lines ≡ after_declared rest
unfolding after_declared
after_more lines rest line signal is found = rw (is, found) refl

-- a line that declares none
pub declared_none : (lines rest : List (List ℕ)) (line : List ℕ) → lines ≡ line ∷ rest → declaration_of line ≡ None → declared lines ≡ []
unfolding declared
declared_none lines rest line is none = rw (is, none) refl

pub after_none : (lines rest : List (List ℕ)) (line : List ℕ) → lines ≡ line ∷ rest → declaration_of line ≡ None → after_declared lines ≡ lines
unfolding after_declared
after_none lines rest line is none = rw (is, none) refl

-- no line is left
pub declared_end : (lines : List (List ℕ)) → lines ≡ [] → declared lines ≡ []
unfolding declared
declared_end lines is = rw is refl

pub after_end : (lines : List (List ℕ)) → lines ≡ [] → after_declared lines ≡ lines
unfolding after_declared
after_end lines is = rw is refl

-- a declared signal after the others
pub declared_push : (new signals : List Signal) (signal : Signal) (lines rest : List (List ℕ)) (line : List ℕ) → new ≡ signals ++ signal ∷ []
    → lines ≡ line ∷ rest → declaration_of line ≡ Some signal → new ++ declared rest ≡ signals ++ declared lines
declared_push new signals signal lines rest line pushed is found =
    rw pushed (append_assoc signals (signal ∷ []) (declared rest)) ∙ ap (λ more. signals ++ more) (sym (declared_more lines rest line signal is found))

map_on : {A : Type 0} (xs : List A) (x : A) (o : Option (List A)) → option_map (λ more. xs ++ more) (option_map (λ more. x ∷ more) o) ≡ option_map (λ more. (xs ++ x ∷ []) ++ more) o
map_on xs x None = refl
map_on xs x (Some more) = ap Some (sym (append_assoc xs (x ∷ []) more))

-- three lines that spell a block
pub blocks_more : (signals : List Signal) (blocks : List Assignment) (lines second third rest : List (List ℕ)) (decorator head assignment : List ℕ) (block : Assignment)
    → lines ≡ decorator ∷ second → second ≡ head ∷ third → third ≡ assignment ∷ rest → block_of signals decorator head assignment ≡ Some block
    → option_map (λ more. blocks ++ more) (blocks_of signals lines) ≡ option_map (λ more. (blocks ++ block ∷ []) ++ more) (blocks_of signals rest)
unfolding blocks_of
blocks_more signals blocks lines second third rest decorator head assignment block one two three found =
    rw (one, two, three, found) (map_on blocks block (blocks_of signals rest))

-- three lines that spell none
pub blocks_wrong : (signals : List Signal) (lines second third rest : List (List ℕ)) (decorator head assignment : List ℕ)
    → lines ≡ decorator ∷ second → second ≡ head ∷ third → third ≡ assignment ∷ rest → block_of signals decorator head assignment ≡ None → blocks_of signals lines ≡ None
unfolding blocks_of
blocks_wrong signals lines second third rest decorator head assignment one two three none = rw (one, two, three, none) refl

-- two lines, or one
pub blocks_two : (signals : List Signal) (lines second third : List (List ℕ)) (decorator head : List ℕ) → lines ≡ decorator ∷ second → second ≡ head ∷ third → third ≡ []
    → blocks_of signals lines ≡ None
unfolding blocks_of
blocks_two signals lines second third decorator head one two three = rw (one, two, three) refl

pub blocks_one : (signals : List Signal) (lines second : List (List ℕ)) (decorator : List ℕ) → lines ≡ decorator ∷ second → second ≡ [] → blocks_of signals lines ≡ None
unfolding blocks_of
blocks_one signals lines second decorator one two = rw (one, two) refl

-- no line is left
pub blocks_end : (signals : List Signal) (blocks : List Assignment) (lines : List (List ℕ)) → lines ≡ []
    → option_map (λ more. blocks ++ more) (blocks_of signals lines) ≡ Some blocks
unfolding blocks_of
blocks_end signals blocks lines is = rw is (ap Some (append-nil blocks))
