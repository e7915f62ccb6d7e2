-- What the values of fields may be.
use Rattle.std.specs.Prelude.{◌≡◌, ℕ, Bool, true, List, Option, Some}
use Rattle.std.specs.Float.{Float}
use Rattle.jiter.specs.Caller.{Number, Tree, boolean_in, string_in}
use Rattle.jiter_walk.specs.Floats.{double-shows, double_in, double_of}
use Rattle.jiter_walk.specs.Integers.{fitting-shows, integer_of}
use Rattle.jiter_walk.specs.ListShown.{IsListOf, IsOrNull, list-shows, or_null-shows}
use Rattle.jiter_walk.specs.Names.{IsName, name-shows, named_in}
use Rattle.jiter_walk.specs.Shown.{IsBetween, IsNumber, IsSource, flag-shows, integer-shows, number_source-shows}
use Rattle.jiter_walk.specs.Shown.{source-shows, text-shows, tree-shows}
use Rattle.jiter_walk.specs.Table.{Finals, Holds, Meaning, Table, distinct, object_in}
use Rattle.jiter_walk.specs.TableLaw.{object-shows}
use Rattle.jiter_walk.specs.Values.{fitting, flag_in, integer_between, list_meaning, number_source_in, or_null_in}
use Rattle.jiter_walk.specs.Values.{source_in, text_in, tree_in}

-- a string
abbrev pub text : {C : Type 0} → Meaning C (List ℕ)
text = record { of = text_in; Is = λ v a. string_in v ≡ Some a; shows = text-shows }

-- `true` or `false`
abbrev pub flag : {C : Type 0} → Meaning C Bool
flag = record { of = flag_in; Is = λ v a. boolean_in v ≡ Some a; shows = flag-shows }

-- an integer between two bounds; another integer is an error of this cause
abbrev pub between : {C : Type 0} → ℕ → ℕ → C → Meaning C ℕ
between low high cause = record {
  of = integer_between low high cause;
  Is = IsBetween low high;
  shows = integer-shows low high cause;
}

-- an integer that fits; another integer is an error of this cause
abbrev pub integer_by : {C A : Type 0} → (Number → Option A) → C → Meaning C A
integer_by fit cause = record {
  of = fitting fit cause;
  Is = λ v a. integer_of fit v ≡ Some a;
  shows = fitting-shows fit cause;
}

-- the double nearest to a number; a number without a finite one is an error of this cause
abbrev pub nearest_double : {C : Type 0} → C → Meaning C Float
nearest_double cause = record { of = double_in cause; Is = λ v x. double_of v ≡ Some x; shows = double-shows cause }

-- a string that names something; another string is an error of this cause
abbrev pub name_by : {C A : Type 0} → (List ℕ → Option A) → C → Meaning C A
name_by names cause = record {
  of = named_in names cause;
  Is = IsName names;
  shows = name-shows names cause;
}

-- an object by a table, no two fields of which have one key
abbrev pub object : {C : Type 0} (x : Table C) → distinct x.fields ≡ true → Meaning C (Finals x.fields)
object x apart = record { of = object_in x; Is = Holds x.fields; shows = object-shows x apart }

-- an array, each item of which has this meaning
abbrev pub list : {C A : Type 0} → Meaning C A → Meaning C (List A)
list m = record { of = list_meaning m.of; Is = IsListOf m.Is; shows = list-shows m.of m.Is m.shows }

-- `null`, which is nothing, or a value with this meaning
abbrev pub or_null : {C A : Type 0} → Meaning C A → Meaning C (Option A)
or_null m = record { of = or_null_in m.of; Is = IsOrNull m.Is; shows = or_null-shows m.of m.Is m.shows }

-- any value
abbrev pub tree : {C : Type 0} → Meaning C Tree
tree = record { of = tree_in; Is = λ v a. v ≡ a; shows = tree-shows }

-- the source of any value
abbrev pub source : {C : Type 0} → Meaning C (List ℕ)
source = record { of = source_in; Is = IsSource; shows = source-shows }

-- the source of a number
abbrev pub number_source : {C : Type 0} → Meaning C (List ℕ)
number_source = record { of = number_source_in; Is = IsNumber; shows = number_source-shows }
