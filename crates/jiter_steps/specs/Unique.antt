-- Unique keys (RFC 8259, 4: the names within an object should be unique): the documents in which no object has two keys
-- of the same characters, and the reading that refuses a key which its object has already.
use Rattle.std.specs.Prelude.{◌≢◌, ℕ, Bool, if◌then◌else◌, List, ◌++◌, map, Option, Some, None}
use Rattle.std.specs.List.{list_any}
use Rattle.std.specs.Str.{bytes_eq}
use Rattle.jiter_scan.specs.Kind.{Kind, duplicate_key}
use Rattle.jiter_scan.specs.PartialMode.{is_active}
use Rattle.jiter_scan.specs.declared.partial_mode.PartialMode.{PartialMode}
use Rattle.jiter_scan.specs.Scanned.{Scanned, taken, failed}
use Rattle.jiter_scan.specs.Word.{Span}
use Rattle.jiter_steps.specs.Answer.{whole_trees, partial_trees}
use Rattle.jiter_steps.specs.Node.{Node, Nodes, no_nodes, node, NodeMembers, no_members, member, IsDocument}
use Rattle.jiter_steps.specs.Node as grammar
use Rattle.jiter_steps.specs.Piece.{text_of}
use Rattle.jiter_steps.specs.Read.{Reading, Rules, prefix_answer, whole_answer}
use Rattle.jiter_steps.specs.Step.{step, colon}
use Rattle.jiter_steps.specs.Tree.{Text, Tree}

-- no member has a key of these characters
abbrev pub HasNoKey : List ℕ → NodeMembers → Type 0
HasNoKey key no_members = Unit {0}
HasNoKey key (member k n ms) = (text_of k.pieces ≢ key) × HasNoKey key ms

-- No object of a value has two keys of the same characters.
abbrev mutual
  pub HasUniqueKeys : Node → Type 0
  HasUniqueKeys (grammar.literal l b e) = Unit {0}
  HasUniqueKeys (grammar.number b e) = Unit {0}
  HasUniqueKeys (grammar.string ps b e) = Unit {0}
  HasUniqueKeys (grammar.array b e ns) = ItemsHaveUniqueKeys ns
  HasUniqueKeys (grammar.object b e ms) = MembersHaveUniqueKeys ms

  pub ItemsHaveUniqueKeys : Nodes → Type 0
  ItemsHaveUniqueKeys no_nodes = Unit {0}
  ItemsHaveUniqueKeys (node n ns) = HasUniqueKeys n × ItemsHaveUniqueKeys ns

  pub MembersHaveUniqueKeys : NodeMembers → Type 0
  MembersHaveUniqueKeys no_members = Unit {0}
  MembersHaveUniqueKeys (member k n ms) =
      HasNoKey (text_of k.pieces) ms × HasUniqueKeys n × MembersHaveUniqueKeys ms

pub record IsUniqueDocument (names : Bool) (t : List ℕ) (n : Node) : Type 0 where
  pub document : IsDocument names t n
  pub unique : HasUniqueKeys n

-- no document with unique keys begins with these bytes
abbrev pub BeginsNoUniqueDocument : Bool → List ℕ → Type 0
BeginsNoUniqueDocument names prefix = (rest : List ℕ) (n : Node) → IsUniqueDocument names (prefix ++ rest) n → ⊥

-- these characters are those of one of the keys
abbrev pub is_among : List ℕ → List (List ℕ) → Bool
is_among key keys = list_any (bytes_eq key) keys

-- the error of a repeated key is after its colon
abbrev pub after_its_colon : List ℕ → Span → Option (Kind × ℕ)
after_its_colon key (taken u j) = Some (duplicate_key key, j)
after_its_colon key (failed k j) = None

-- the error of a key, after these
abbrev pub repeated_key : {K : Type 0} → (K → List ℕ) → List (List ℕ) → List ℕ → Scanned K → Option (Kind × ℕ)
repeated_key characters keys t (taken k e) =
    if is_among (characters k) keys then after_its_colon (characters k) (step t colon e) else None
repeated_key characters keys t (failed kind j) = None

-- the same rules, and no key twice, where a key is seen with these characters
abbrev pub without_repeats : {K A : Type 0} → (K → List ℕ) → Rules K A → Rules K A
without_repeats characters r = record {
  forgives = r.forgives;
  literal = r.literal;
  number = r.number;
  text = r.text;
  key = r.key;
  refuses = λ members t i. repeated_key characters (map (λ m. characters m.0) members) t (r.key t i);
  array = r.array;
  object = r.object;
}

-- a text's own characters
abbrev pub own_bytes : Text → List ℕ
own_bytes s = s.bytes

-- With partial reading off: the value of a document with unique keys, or the first error.
abbrev pub unique_answer : Bool → List ℕ → Reading Tree
unique_answer names t = whole_answer (without_repeats own_bytes (whole_trees names)) t

-- What a parse that refuses repeated keys answers in this mode.
abbrev pub unique_answer_in : Bool → PartialMode → List ℕ → Reading Tree
unique_answer_in names mode t =
    if is_active mode then prefix_answer (without_repeats own_bytes (partial_trees names mode)) t
    else unique_answer names t
