-- Laws of truth values.
use Rattle.std.proofs.Common.{◌≡◌, ◌&&◌, ◌||◌, Bool, true, false, not, refl}

pub and_false : (a : Bool) → (a && false) ≡ false
and_false true = refl
and_false false = refl

pub or_false : (a : Bool) → (a || false) ≡ a
or_false true = refl
or_false false = refl

pub or_true : (a : Bool) → (a || true) ≡ true
or_true true = refl
or_true false = refl

pub or_assoc : (a b c : Bool) → (a || (b || c)) ≡ ((a || b) || c)
or_assoc true b c = refl
or_assoc false b c = refl

-- some of what is a, or else n and one of two
pub any_more : (a n h r : Bool) → ((a || (n && h)) || (a || (n && r))) ≡ (a || (n && (h || r)))
any_more true n h r = refl
any_more false true h r = refl
any_more false false h r = refl

pub any_last : (a n h : Bool) → ((a || (n && h)) || false) ≡ (a || (n && (h || false)))
any_last true n h = refl
any_last false true h = refl
any_last false false h = refl

pub all_more : (a h r : Bool) → ((a || h) && (a || r)) ≡ (a || (h && r))
all_more true h r = refl
all_more false h r = refl

-- one thing and then another, before the rest
pub early_then : (a s b n r : Bool) → (a || (not s && (b || (not n && r)))) ≡ ((a || (not s && b)) || (not (s || n) && r))
early_then true s b n r = refl
early_then false true b n r = refl
early_then false false true n r = refl
early_then false false false n r = refl

-- one thing or another, before the rest
pub either_any : (a b r : Bool) → ((a || r) || (b || r)) ≡ ((a || b) || r)
either_any true b r = refl
either_any false true true = refl
either_any false true false = refl
either_any false false true = refl
either_any false false false = refl

pub either_all : (a b r : Bool) → ((a || r) && (b || r)) ≡ ((a && b) || r)
either_all true true r = refl
either_all true false r = refl
either_all false true true = refl
either_all false true false = refl
either_all false false true = refl
either_all false false false = refl

pub either_early : (a s b n r : Bool) →
    ((a || (not s && r)) || (b || (not n && r))) ≡ ((a || b) || (not (s && n) && r))
either_early true s b n r = refl
either_early false true b n r = refl
either_early false false true n true = refl
either_early false false true n false = refl
either_early false false false true true = refl
either_early false false false false true = refl
either_early false false false true false = refl
either_early false false false false false = refl

-- a read or a write, and then the rest
pub read_on : (t a s r : Bool) → (t || (a || (not s && r))) ≡ ((t || a) || (not s && r))
read_on true a s r = refl
read_on false a s r = refl

pub write_on : (t a s r : Bool) → (not t && (a || (not s && r))) ≡ ((not t && a) || (not (t || s) && r))
write_on true a s r = refl
write_on false a s r = refl
