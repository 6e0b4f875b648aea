use Rattle.std.proofs.Common.{rules, sym}
use Rattle.pm_trace.proofs.Places.{word_fails, word_read, words_done, wrong_answered}
use Rattle.pm_trace.proofs.header.columns_in.Goals as goal

pub returns-in-None : goal.returns-in-None
returns-in-None c =
    wrong_answered c.args.inputs.now c.args.line.now c.in-Some.word.now c.bad_header.result c.bad_header.ensures
    (word_fails c.args.inputs.now c.args.line.now c.line_words.rest.now c.in-Some.after.now c.line_words.port_of
    c.in_ok-places.places c.line_words.words
    c.in-Some.word.now c.in_ok-places.ensures c.line_words.invariant (search rules) (sym c.in-None.ensures))

pub line_words-preserved : goal.line_words-preserved
line_words-preserved c =
    word_read c.args.inputs.now c.args.line.now c.line_words.rest.now c.in-Some.after.now c.line_words.port_of
    c.push.new.self
    c.in_ok-places.places c.line_words.words c.put.new.self c.in-Some.word.now c.in-Some-new_place.place
    c.in_ok-places.ensures c.line_words.invariant (search rules)
    (sym c.in-Some-new_place.ensures) c.in_ok-push-in-Some-new_place.ensures.ok
    c.in_ok-put-in-Some-new_place.ensures.put

pub returns : goal.returns
returns c =
    words_done c.args.inputs.now c.args.line.now c.line_words.rest.now c.line_words.port_of c.line_words.words
    c.line_words.invariant c.in_default.ensures
