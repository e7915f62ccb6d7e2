-- Items and members of a value, looked up.
use Rattle.jiter_value.proofs.Words.{◌≡◌, ℕ, zero, suc, ◌+◌, ◌<◌, ◌≤◌, List, [], ◌∷◌, ◌++◌, length, take, get_or, refl}
use Rattle.jiter_value.proofs.Words.{sym, ap, ◌∙◌, arith, option_map, Bool, Option, Some, None, if◌then◌else◌}
use Rattle.jiter_value.proofs.Words.{slice_get, true, false, take_more, slice_get_read, Tree, item_of, last_such}
use Rattle.jiter_value.proofs.Words.{Member, member_view, view, views, member_views, JsonValue}

item-there : (i : ℕ) (vs : List JsonValue) (v : JsonValue) → slice_get vs i ≡ Some v
    → Some (view v) ≡ item_of i (views vs)
item-there zero (w ∷ vs) v e = ap (option_map view) (sym e)
item-there (suc i) (w ∷ vs) v e = item-there i vs v e
item-there zero [] v e = absurd (cc)
item-there (suc i) [] v e = absurd (cc)

pub item_found : (i : ℕ) (vs : List JsonValue) (v : JsonValue) → i < length vs → v ≡ get_or vs i v
    → Some (view v) ≡ item_of i (views vs)
item_found i vs v lt at = item-there i vs v (slice_get_read vs (length vs) i v refl lt at)

pub item_missing : (i : ℕ) (vs : List JsonValue) → length vs ≤ i → None ≡ item_of i (views vs)
item_missing i [] h = refl
item_missing zero (v ∷ vs) h = absurd (omega (arith, h))
item_missing (suc i) (v ∷ vs) h = item_missing i vs (omega (arith, h))

last_such-push : (test : List ℕ → Bool) (ms : List Member) (m : Member) (f : Option Tree)
    → last_such test f (member_views (ms ++ m ∷ []))
    ≡ (if test (member_view m).0.bytes then Some (view m.1) else last_such test f (member_views ms))
last_such-push test [] m f = refl
last_such-push test (n ∷ ms) m f = last_such-push test ms m _

-- one more member
pub last_such_more : (test : List ℕ → Bool) (ms : List Member) (i : ℕ) (m : Member) → i < length ms
    → m ≡ get_or ms i m
    → last_such test None (member_views (take (i + 1) ms))
    ≡ (if test (member_view m).0.bytes then Some (view m.1) else last_such test None (member_views (take i ms)))
last_such_more test ms i m lt at =
    ap (λ ns. last_such test None (member_views ns))
    (take_more ms i m lt ∙ ap (λ n. take i ms ++ n ∷ []) (sym at))
    ∙ last_such-push test (take i ms) m None

-- it passes, or does not
pub last_such_hit : (test : List ℕ → Bool) (ms : List Member) (i : ℕ) (m : Member) → i < length ms
    → m ≡ get_or ms i m → test (member_view m).0.bytes ≡ true
    → Some (view m.1) ≡ last_such test None (member_views (take (i + 1) ms))
last_such_hit test ms i m lt at same = sym (last_such_more test ms i m lt at ∙ rw same refl)

pub last_such_miss : (test : List ℕ → Bool) (ms : List Member) (i : ℕ) (m : Member) → i < length ms
    → m ≡ get_or ms i m → test (member_view m).0.bytes ≡ false
    → last_such test None (member_views (take i ms)) ≡ last_such test None (member_views (take (i + 1) ms))
last_such_miss test ms i m lt at other = sym (last_such_more test ms i m lt at ∙ rw other refl)
