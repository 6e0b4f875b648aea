-- Proof that the command is one whose meaning `clap` states.
use Rattle.std.proofs.Common.{◌≡◌, refl}
use Rattle.std.specs.Prelude.{true}
use Rattle.clap.specs.Words.{is_simple, is_simple_and_free}
use Rattle.pm_words.specs.Command.{the_app}

pub the_app_is_simple : is_simple the_app ≡ true
the_app_is_simple = refl

pub the_app_is_free : is_simple_and_free the_app ≡ true
the_app_is_free = refl
