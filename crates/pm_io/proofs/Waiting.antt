-- What waits to be written, piece by piece.
use Rattle.std.proofs.Common.{◌≡◌, ◌∙◌, ◌++◌, ℕ, List, [], refl, ap, sym, subst, append_assoc, append-nil}
use Rattle.std.specs.Prelude.{Option}
use Rattle.pm_io.specs.Known.{Grows, GrowsByFront}
use Rattle.pm_io.specs.Streams.{Puts}
use Rattle.pm_io.specs.Buffering.{Queues, Flushes}
use Rattle.pm_io.specs.declared.sink.Put.{Put}
use Rattle.pm_io.specs.declared.sink.Put.TheVariants as put
use Rattle.pm_io.proofs.KnownBytes.{grows_on, grows_on_by_front, grows_in_longer}

-- to put all that waits is to flush it
pub flushes_by_put : (old new : Option (List ℕ)) (waiting : List ℕ) (result : Put) → Puts old new waiting result → Flushes old new waiting [] result
flushes_by_put old new waiting put.All grown = (grown, refl)
flushes_by_put old new waiting put.Failed part = part

-- a piece is put where nothing waits
pub queues_by_put : (old new : Option (List ℕ)) (waiting piece : List ℕ) (result : Put) → waiting ≡ [] → Puts old new piece result → Queues old new waiting waiting piece result
queues_by_put old new waiting piece put.All none grown =
    (piece, grown, ap (λ (xs : List ℕ). xs ++ piece) none ∙ (sym (append-nil piece) ∙ ap (λ (xs : List ℕ). piece ++ xs) (sym none)))
queues_by_put old new waiting piece put.Failed none part =
    subst (λ (xs : List ℕ). GrowsByFront old new (xs ++ piece)) (sym none) part

-- a piece is queued after all that waited was written
pub queues_after : (old mid new : Option (List ℕ)) (waiting empty waiting' piece : List ℕ) (result : Put) → Grows old mid waiting → empty ≡ []
    → Queues mid new empty waiting' piece result → Queues old new waiting waiting' piece result
queues_after old mid new waiting empty waiting' piece put.All one none queued =
    let same : piece ≡ queued.0 ++ waiting' = subst (λ (xs : List ℕ). xs ++ piece ≡ queued.0 ++ waiting') none queued.2 in
    (waiting ++ queued.0, grows_on old mid new waiting queued.0 one queued.1, ap (λ (xs : List ℕ). waiting ++ xs) same ∙ sym (append_assoc waiting queued.0 waiting'))
queues_after old mid new waiting empty waiting' piece put.Failed one none part =
    grows_on_by_front old mid new waiting piece one (subst (λ (xs : List ℕ). GrowsByFront mid new (xs ++ piece)) none part)

-- one piece queued after another
pub queues_on : (old mid new : Option (List ℕ)) (waiting waiting' waiting'' first second whole : List ℕ) (result : Put) → whole ≡ first ++ second
    → Queues old mid waiting waiting' first put.All → Queues mid new waiting' waiting'' second result
    → Queues old new waiting waiting'' whole result
queues_on old mid new waiting waiting' waiting'' first second whole put.All is one two = (
  one.0 ++ two.0,
  grows_on old mid new one.0 two.0 one.1 two.1,
  ap (λ (xs : List ℕ). waiting ++ xs) is ∙ (sym (append_assoc waiting first second) ∙ (ap (λ (xs : List ℕ). xs ++ second) one.2
      ∙ (append_assoc one.0 waiting' second ∙ (ap (λ (xs : List ℕ). one.0 ++ xs) two.2 ∙ sym (append_assoc one.0 two.0 waiting''))))),
)
queues_on old mid new waiting waiting' waiting'' first second whole put.Failed is one part =
    subst (GrowsByFront old new)
    (sym (append_assoc one.0 waiting' second) ∙ (ap (λ (xs : List ℕ). xs ++ second) (sym one.2)
    ∙ (append_assoc waiting first second ∙ ap (λ (xs : List ℕ). waiting ++ xs) (sym is))))
    (grows_on_by_front old mid new one.0 (waiting' ++ second) one.1 part)

-- where a piece failed, a longer one failed that begins with it
pub queues_in_longer : (old new : Option (List ℕ)) (waiting waiting' waiting'' piece more whole : List ℕ) → whole ≡ piece ++ more
    → Queues old new waiting waiting' piece put.Failed → Queues old new waiting waiting'' whole put.Failed
queues_in_longer old new waiting waiting' waiting'' piece more whole is part =
    subst (GrowsByFront old new) (append_assoc waiting piece more ∙ ap (λ (xs : List ℕ). waiting ++ xs) (sym is))
    (grows_in_longer old new (waiting ++ piece) more part)

-- a piece is queued where nothing waits, and all is flushed
pub puts_by_flush : (old mid new : Option (List ℕ)) (waiting waiting' waiting'' piece : List ℕ) (result : Put) → waiting ≡ []
    → Queues old mid waiting waiting' piece put.All → Flushes mid new waiting' waiting'' result → Puts old new piece result
puts_by_flush old mid new waiting waiting' waiting'' piece put.All none queued flushed =
    subst (Grows old new) (sym queued.2 ∙ ap (λ (xs : List ℕ). xs ++ piece) none) (grows_on old mid new queued.0 waiting' queued.1 flushed.0)
puts_by_flush old mid new waiting waiting' waiting'' piece put.Failed none queued part =
    subst (GrowsByFront old new) (sym queued.2 ∙ ap (λ (xs : List ℕ). xs ++ piece) none) (grows_on_by_front old mid new queued.0 waiting' queued.1 part)
