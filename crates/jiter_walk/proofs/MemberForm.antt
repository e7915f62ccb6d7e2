-- An object as a container of members, of which the decoded key and its index are told.
use Rattle.std.proofs.Common.{◌≡◌, ◌∙◌, ◌⊎◌, inl, inr, ℕ, ◌+◌, ◌<◌, ◌≤◌, List, length, refl, sym, ap, subst, arith}
use Rattle.std.proofs.lemmas.Option.{get_or_from_slice_get, none-some, slice_get-get_or, slice_get_within}
use Rattle.std.specs.Cow.{cow_str_bytes}
use Rattle.std.specs.declared.alloc.Global.{Global}
use Rattle.std.specs.declared.borrow.CowStr.{CowStr}
use Rattle.std.specs.Prelude.{IfSome, Option, Some, None, option_map, slice_get, slice_index}
use Rattle.jiter_scan.specs.Scanned.{Scanned, failed, taken}
use Rattle.jiter_scan.specs.Word.{Span}
use Rattle.jiter_scan.specs.NumberReading.{span_then}
use Rattle.jiter_steps.specs.Answer.{only_ends, seen_as}
use Rattle.jiter_steps.specs.Blank.{past_blanks}
use Rattle.jiter_steps.specs.Literal.{start_of}
use Rattle.jiter_steps.specs.Node.{NodeMembers, nesting_limit}
use Rattle.jiter_steps.specs.Read.{Reading, after_key, done, inside_at, value_at}
use Rattle.jiter_steps.specs.Step.{Step, closed, colon, more, object_first, object_step, step, stuck, value_first}
use Rattle.jiter_steps.specs.StringReading.{string_at}
use Rattle.jiter_steps.specs.declared.parse.ContainerKind.TheVariants as shape
use Rattle.jiter_steps.specs.declared.parse.Start.{Start}
use Rattle.jiter_steps.specs.declared.parse.Start.TheVariants as start
use Rattle.jiter_steps.proofs.Grammar.SpelledParts.{members-parts, members_list}
use Rattle.jiter_steps.proofs.Grammar.StringLaws.{raw-whole}
use Rattle.jiter_steps.proofs.Reading.Bounds.{Ahead, container_first-ahead, container_step-ahead}
use Rattle.jiter_steps.proofs.Reading.Instances.{only_ends-advances}
use Rattle.jiter_steps.proofs.Reading.Values.{inside_at-within, member-value, object_of-goes, value-starts}
use Rattle.jiter.specs.Caller.{Cause, Key, MovesOn, Node, ReaderState, Reply, Text, ValueType, begin, gave, key_bytes, next}
use Rattle.jiter.specs.Caller.{indexed_key_bytes, key_step, object_read, refused, reply_seen, tree_type, value_of, value_place, whole, wrong_type}
use Rattle.jiter.specs.Reader.{colon_reply, if_byte, key_reply, member_reply, part_reply, refused_as}
use Rattle.jiter.proofs.Walking.{seen-refused}
use Rattle.jiter.proofs.Telling.{object-refused}
use Rattle.jiter.proofs.Walking.{AMember, IsNoObject, MeetsPart, gave-is, gave-refused, member-meets, next-reads}
use Rattle.jiter.proofs.Walking.{sees-whole, whole_key}
use Rattle.jiter_walk.specs.Walk.{Comes, Outcome, key_text, members_walked, object_walked, of_reader}
use Rattle.jiter_walk.proofs.Coming.{comes-next, moved-text}
use Rattle.jiter_walk.proofs.Outcomes.{same-then}
use Rattle.jiter_walk.proofs.PartWalk.{Form, IsOther, Splits, parts_walked, skipped}

-- the same error, whatever was wanted
error-as : {A B : Type 0} (c d : Cause) (x y m n : ℕ) → ◌≡◌ {A = Reply A} (refused c x m) (refused d y n)
    → ◌≡◌ {A = Reply B} (refused c x m) (refused d y n)
error-as {B = B} c d x y m n h =
    let cause : c ≡ d = cc in
    let index : x ≡ y = cc in
    let stop : m ≡ n = cc in
    let first : ◌≡◌ {A = Reply B} (refused c x m) (refused d x m) = ap (λ e. refused e x m) cause in
    let second : ◌≡◌ {A = Reply B} (refused d x m) (refused d y m) = ap (λ i. refused d i m) index in
    first ∙ second ∙ ap (refused d y) stop

module _ {C S : Type 0} (after : List ℕ → List ℕ → ℕ → Node → S → Outcome C S) (s0 : ReaderState) where
  abbrev t : List ℕ
  t = s0.text

  -- a key that was told, with the index that it begins at
  abbrev indexed : ℕ → Reply (Option Text) → Reply (Option (List ℕ × ℕ))
  indexed j = reply_seen (option_map (λ x. (x.bytes, j)))

  abbrev pub told : ℕ → Reply (Option (List ℕ × ℕ))
  told j = indexed j (key_reply t j (string_at whole t j))

  pub meets : (i : ℕ) (m : Key × Node) (e : ℕ) → AMember s0.names t i m e
      → MeetsPart s0 told (key_text t m.0, m.0.begin) m.1 i e
  meets i m e h =
      let p = member-meets whole (whole_key t) s0 (sees-whole t) i m e h in
      record {
        after = p.after;
        is = ap (indexed i) p.is ∙ ap (λ j. gave (Some (key_text t m.0, j)) p.after) (sym h.begins);
        comes = p.comes;
        ends = p.ends;
      }

  -- a key that was told: its string, its colon and where the reader is then
  record KeyTold (j p : ℕ) (k : Option (List ℕ × ℕ)) : Type 0 where
    pub text : Text
    pub end : ℕ
    pub string : string_at whole t j ≡ taken text end
    pub colon : step t colon end ≡ taken tt p
    pub is : k ≡ Some (text.bytes, j)

  key-told : (j p : ℕ) (k : Option (List ℕ × ℕ)) → told j ≡ gave k p → KeyTold j p k
  key-told j p k h = by (string_at whole t j) refl h where
    by-colon : (x : Text) (e : ℕ) → string_at whole t j ≡ taken x e → (c : Span) → step t colon e ≡ c
        → indexed j (colon_reply x c) ≡ gave k p → KeyTold j p k
    by-colon x e text (taken u m) there h =
        let both = gave-is (Some (x.bytes, j)) k m p h in
        record { text = x; end = e; string = text; colon = there ∙ ap (λ i. taken tt i) both.1; is = sym both.0 }
    by-colon x e text (failed c m) there h = absurd (gave-refused (sym h))

    by : (x : Scanned Text) → string_at whole t j ≡ x → indexed j (key_reply t j x) ≡ gave k p → KeyTold j p k
    by (taken x e) text h = by-colon x e text (step t colon e) refl h
    by (failed c e) text h = absurd (gave-refused (sym h))

  pub some : (j p : ℕ) → told j ≡ gave None p → ⊥
  some j p h = none-some _ ((key-told j p None h).is)

  pub passed : (inner : ℕ → Reading (Unit {0})) (j p e : ℕ) (k : List ℕ × ℕ) → told j ≡ gave (Some k) p
      → past_blanks t p < length t → inner (past_blanks t p) ≡ done tt e
      → after_key inner t j ((only_ends s0.names).key t j) ≡ done (tt, tt) e
  passed inner j p e k h inside is =
      let key = key-told j p (Some k) h in
      member-value (only_ends s0.names) t inner j key.end (past_blanks t p) tt (done tt e)
      (ap (seen_as (λ s i. tt)) (raw-whole t j key.end key.text key.string))
      (ap (λ x. span_then x (step t value_first)) key.colon
      ∙ ap (value_first (past_blanks t p)) (slice_get-get_or t (past_blanks t p) 0 inside)) is

  abbrev pub members : Form s0 (Key × Node) (List ℕ × ℕ) (Unit {0} × Unit {0}) C S
  members = record {
    kind = shape.Object;
    IsPart = AMember;
    key = λ m. (key_text t m.0, m.0.begin);
    value = λ m. m.1;
    told = told;
    meets = meets;
    some = some;
    after = λ u k n s. after u k.0 k.1 n s;
    piece = λ inner j. after_key inner t j ((only_ends s0.names).key t j);
    is = (tt, tt);
    goes = λ levels.
        object_of-goes (only_ends s0.names) t (only_ends-advances t s0.names) (inside_at (only_ends s0.names) t levels)
        (inside_at-within (only_ends s0.names) t (only_ends-advances t s0.names) levels) (value_place s0);
    passed = λ inner j p e k unblank told inside is. passed inner j p e k told inside is;
  }

  -- what the call for the first key replies, with the key's index
  abbrev first_key : ℕ → Start → Reply (Option (List ℕ × ℕ))
  first_key i start.Object = part_reply told (step t object_first (i + 1))
  first_key i b = refused_as s0 i ValueType.object b

  abbrev pub opened : Reply (Option (List ℕ × ℕ))
  opened = next s0 first_key

  -- from a reply without the index
  step-error : (s : Step) (c : Cause) (x stop : ℕ) → member_reply whole t s ≡ refused c x stop
      → part_reply told s ≡ refused c x stop
  step-error (more j) c x stop h = ap (indexed j) h
  step-error (closed e) c x stop h = absurd (gave-refused h)
  step-error (stuck k j) c x stop h = error-as _ c j x j stop h

  step-gave : (s : Step) (o : Option (List ℕ × ℕ)) (p : ℕ)
      → reply_seen key_bytes (member_reply whole t s) ≡ gave (option_map (λ k. k.0) o) p
      → IfSome o (λ k. s ≡ more k.1) → part_reply told s ≡ gave o p
  step-gave (more j) (Some k) p h at = by (key_reply t j (string_at whole t j)) h where
    index : j ≡ k.1
    index = cc

    by : (r : Reply (Option Text)) → reply_seen key_bytes r ≡ gave (Some k.0) p → indexed j r ≡ gave (Some k) p
    by (gave (Some x) i) h =
        let both = gave-is (Some x.bytes) (Some k.0) i p h in
        let bytes : x.bytes ≡ k.0 = cc in
        ap (λ m. gave (Some (x.bytes, j)) m) both.1 ∙ ap (λ b. gave (Some (b, j)) p) bytes
        ∙ ap (λ m. gave (Some (k.0, m)) p) index
    by (gave None i) h = absurd (none-some _ (gave-is None (Some k.0) i p h).0)
    by (refused c x stop) h = absurd (gave-refused (sym h))
  step-gave (more j) None p h at = by (string_at whole t j) h where
    by-colon : (x : Text) (c : Span) → reply_seen key_bytes (colon_reply x c) ≡ gave None p
        → indexed j (colon_reply x c) ≡ gave None p
    by-colon x (taken u m) h = absurd (none-some _ (sym (gave-is (Some x.bytes) None m p h).0))
    by-colon x (failed c m) h = absurd (gave-refused (sym h))

    by : (x : Scanned Text) → reply_seen key_bytes (key_reply t j x) ≡ gave None p → indexed j (key_reply t j x) ≡ gave None p
    by (taken x e) h = by-colon x (step t colon e) h
    by (failed c e) h = absurd (gave-refused (sym h))
  step-gave (closed e) (Some k) p h at = absurd (cc)
  step-gave (closed e) None p h at = ap (λ i. gave None i) (gave-is None None e p h).1
  step-gave (stuck c j) o p h at = absurd (gave-refused (sym h))

  -- what the code was given, as the walk sees it
  abbrev pub keys_seen : Option (CowStr Global × ℕ) → Option (List ℕ × ℕ)
  keys_seen = option_map (λ k. (cow_str_bytes k.0, k.1))

  keys-of : (o : Option (CowStr Global × ℕ)) → option_map indexed_key_bytes o ≡ option_map (λ k. k.0) (keys_seen o)
  keys-of None = refl
  keys-of (Some k) = refl

  index-of : (o : Option (CowStr Global × ℕ)) (s : Step) → IfSome o (λ k. s ≡ more k.1)
      → IfSome (keys_seen o) (λ k. s ≡ more k.1)
  index-of None s h = tt
  index-of (Some k) s h = h

  -- The key's index is within the bytes.
  abbrev pub KeyWithin : Option (CowStr Global × ℕ) → Type 0
  KeyWithin o = IfSome o (λ k. k.1 ≤ length t)

  key-within : (o : Option (CowStr Global × ℕ)) (m : ℕ) (s : Step) → Ahead t m s → IfSome o (λ k. s ≡ more k.1)
      → KeyWithin o
  key-within None m s ahead h = tt
  key-within (Some k) m s ahead h = let there = subst (Ahead t m) h ahead in omega (arith, there.1)

  pub first-within : (o : Option (CowStr Global × ℕ)) → value_place s0 + 1 ≤ length t
      → IfSome o (λ k. step t object_first (value_place s0 + 1) ≡ more k.1) → KeyWithin o
  first-within o within h =
      key-within o (value_place s0 + 1) (step t object_first (value_place s0 + 1))
      (container_first-ahead t shape.Object (value_place s0 + 1) within) h

  pub next-within : (o : Option (CowStr Global × ℕ)) (s : ReaderState) → MovesOn s0 s
      → IfSome o (λ k. step s.text (object_step s.text) s.position ≡ more k.1) → KeyWithin o
  next-within o s moved h =
      key-within o s.position (step t (object_step t) s.position)
      (container_step-ahead t shape.Object s.position moved.within)
      (subst (λ u. IfSome o (λ k. step u (object_step u) s.position ≡ more k.1)) (moved-text s0 s moved) h)

  pub next-gave : (o : Option (CowStr Global × ℕ)) (s : ReaderState) (p : ℕ) → s.text ≡ t
      → reply_seen key_bytes (key_step whole s) ≡ gave (option_map indexed_key_bytes o) p
      → IfSome o (λ k. step s.text (object_step s.text) s.position ≡ more k.1)
      → part_reply told (step t (object_step t) s.position) ≡ gave (keys_seen o) p
  next-gave o s p text h at =
      let is = h ∙ ap (λ k. gave k p) (keys-of o) in
      step-gave (step t (object_step t) s.position) (keys_seen o) p
      (subst (λ u. reply_seen key_bytes (member_reply whole u (step u (object_step u) s.position))
      ≡ gave (option_map (λ k. k.0) (keys_seen o)) p) text is)
      (subst (λ u. IfSome (keys_seen o) (λ k. step u (object_step u) s.position ≡ more k.1)) text
      (index-of o (step s.text (object_step s.text) s.position) at))

  pub next-error : (s : ReaderState) (c : Cause) (x stop : ℕ) → s.text ≡ t
      → reply_seen key_bytes (key_step whole s) ≡ refused c x stop
      → part_reply told (step t (object_step t) s.position) ≡ refused c x stop
  next-error s c x stop text h =
      step-error (step t (object_step t) s.position) c x stop
      (subst (λ u. member_reply whole u (step u (object_step u) s.position) ≡ refused c x stop) text
      (seen-refused key_bytes _ c x stop h))

  pub open-error : (c : Cause) (x stop : ℕ) → next s0 (object_read whole s0) ≡ refused c x stop → opened ≡ refused c x stop
  open-error c x stop h = by (slice_get t (value_place s0)) h where
    at-start : (b : Start) → object_read whole s0 (value_place s0) b ≡ refused c x stop → first_key (value_place s0) b ≡ refused c x stop
    at-start start.Object h = step-error (step t object_first (value_place s0 + 1)) c x stop h
    at-start start.Array h = error-as _ c _ x _ stop h
    at-start start.String h = error-as _ c _ x _ stop h
    at-start start.Number h = error-as _ c _ x _ stop h
    at-start (start.Literal l) h = error-as _ c _ x _ stop h
    at-start start.Nothing h = error-as _ c _ x _ stop h

    by : (o : Option ℕ) → if_byte (value_place s0) o (λ b. object_read whole s0 (value_place s0) (start_of b)) ≡ refused c x stop
        → if_byte (value_place s0) o (λ b. first_key (value_place s0) (start_of b)) ≡ refused c x stop
    by None h = error-as _ c _ x _ stop h
    by (Some b) h = at-start (start_of b) h

  pub first-error : (c : Cause) (x stop : ℕ) → reply_seen key_bytes (next s0 (object_read whole s0)) ≡ refused c x stop
      → opened ≡ refused c x stop
  first-error c x stop h = open-error c x stop (seen-refused key_bytes _ c x stop h)

  -- what opens as an object begins as one
  pub record Opens (o : Option (CowStr Global × ℕ)) (p : ℕ) : Type 0 where
    pub starts : start_of (slice_index t (value_place s0)) ≡ start.Object
    pub within : value_place s0 + 1 ≤ length t
    pub opens : opened ≡ part_reply told (step t object_first (value_place s0 + 1))
    pub given : opened ≡ gave (keys_seen o) p

  pub object-opens : (o : Option (CowStr Global × ℕ)) (p : ℕ)
      → reply_seen key_bytes (next s0 (object_read whole s0)) ≡ gave (option_map indexed_key_bytes o) p
      → IfSome o (λ k. step t object_first (value_place s0 + 1) ≡ more k.1) → Opens o p
  object-opens o p h at = by (slice_get t (value_place s0)) refl (h ∙ ap (λ k. gave k p) (keys-of o)) where
    start-is : (c : ℕ) → slice_get t (value_place s0) ≡ Some c → (b : Start) → start_of c ≡ b
        → reply_seen key_bytes (object_read whole s0 (value_place s0) b) ≡ gave (option_map (λ k. k.0) (keys_seen o)) p
        → Opens o p
    start-is c there start.Object begins h =
        let opens : opened ≡ part_reply told (step t object_first (value_place s0 + 1)) =
        ap (λ o. if_byte (value_place s0) o (λ c. first_key (value_place s0) (start_of c))) there
        ∙ ap (first_key (value_place s0)) begins in
        record {
          starts = ap start_of (get_or_from_slice_get t (value_place s0) c 0 there) ∙ begins;
          within = omega (arith, slice_get_within t (value_place s0) c there);
          opens = opens;
          given = opens
              ∙ step-gave (step t object_first (value_place s0 + 1)) (keys_seen o) p h
              (index-of o (step t object_first (value_place s0 + 1)) at);
        }
    start-is c there b begins h = absurd (gave-refused (sym h))

    by : (x : Option ℕ) → slice_get t (value_place s0) ≡ x
        → reply_seen key_bytes (if_byte (value_place s0) x (λ c. object_read whole s0 (value_place s0) (start_of c)))
        ≡ gave (option_map (λ k. k.0) (keys_seen o)) p → Opens o p
    by None there h = absurd (gave-refused (sym h))
    by (Some c) there h = start-is c there (start_of c) refl h

  all-members : (start : S) (ms : NodeMembers)
      → members_walked after t start ms ≡ parts_walked members start (members_list ms)
  all-members start NodeMembers.no_members = refl
  all-members start (NodeMembers.member k n ms) =
      same-then (after t (key_text t k) k.begin n start) (λ r. all-members r ms)

  no-object : (start : S) (n : Node) → Comes s0 n → IsNoObject n
      → object_walked after start t n ≡ Outcome.fails (of_reader (wrong_type ValueType.object (tree_type (value_of t n)))) (begin n)
      → IsOther members (object_walked after start t n) opened
  no-object start n comes other is = record {
    cause = wrong_type ValueType.object (tree_type (value_of t n));
    index = begin n;
    stop = begin n;
    refuses = open-error _ (begin n) (begin n) (object-refused s0 whole n (comes-next s0 n comes) other);
    fails = is;
  }

  pub object-cases : (start : S) (n : Node) → Comes s0 n
      → Splits members (object_walked after start t n) n opened start
      ⊎ IsOther members (object_walked after start t n) opened
  object-cases start (Node.object b e ms) comes =
      let stands = (comes-next s0 (Node.object b e ms) comes).stands in
      inl (record {
        first = b;
        last = e;
        all = members_list ms;
        parts = members-parts s0.names t nesting_limit ms (b + 1) e comes.spelled.1 comes.limit;
        opens = next-reads s0 (Node.object b e ms) stands first_key;
        means = all-members start ms;
        ends = refl;
      })
  object-cases start (Node.literal l b e) comes = inr (no-object start (Node.literal l b e) comes tt refl)
  object-cases start (Node.number b e) comes = inr (no-object start (Node.number b e) comes tt refl)
  object-cases start (Node.string ps b e) comes = inr (no-object start (Node.string ps b e) comes tt refl)
  object-cases start (Node.array b e ns) comes = inr (no-object start (Node.array b e ns) comes tt refl)

  pub object-skipped : (levels : ℕ) → start_of (slice_index t (value_place s0)) ≡ start.Object
      → value_at (only_ends s0.names) t levels (value_place s0) ≡ skipped members levels
  object-skipped levels starts = value-starts (only_ends s0.names) t levels (value_place s0) start.Object starts
