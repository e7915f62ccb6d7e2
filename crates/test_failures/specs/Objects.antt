-- What the structs are that walks read.
use Prim.Native.String.{String}
use Rattle.std.specs.Prelude.{ℕ, false, List, [], ◌∷◌, None, codes, map, option_map, refl, string_bytes}
use Rattle.jiter.specs.Caller.{view}
use Rattle.jiter_walk.specs.Meanings.{between, flag, list, name_by, number_source, object, or_null, source, text, tree}
use Rattle.jiter_walk.specs.Names.{named}
use Rattle.jiter_walk.specs.Table.{Field, Finals, Meaning, Slots, Table, defaulted, once, only, optional, required, table}
use Rattle.test_failures.specs.declared.config.Config.{Config}
use Rattle.test_failures.specs.declared.config.ConfigFields.{ConfigFields}
use Rattle.test_failures.specs.declared.config.ConfigKey.TheVariants as config_keys
use Rattle.test_failures.specs.declared.config.ConfigKey.{ConfigKey}
use Rattle.test_failures.specs.declared.event.Event.{Event}
use Rattle.test_failures.specs.declared.event.EventFields.{EventFields}
use Rattle.test_failures.specs.declared.event.EventKey.TheVariants as event_keys
use Rattle.test_failures.specs.declared.event.EventKey.{EventKey}
use Rattle.test_failures.specs.declared.event.State.TheVariants as state
use Rattle.test_failures.specs.declared.event.State.{State}
use Rattle.test_failures.specs.declared.message.Message.{Message}
use Rattle.test_failures.specs.declared.message.MessageFields.{MessageFields}
use Rattle.test_failures.specs.declared.message.MessageKey.TheVariants as message_keys
use Rattle.test_failures.specs.declared.message.MessageKey.{MessageKey}
use Rattle.test_failures.specs.declared.message.User.{User}
use Rattle.test_failures.specs.declared.message.UserFields.{UserFields}
use Rattle.test_failures.specs.declared.message.UserKey.TheVariants as user_keys
use Rattle.test_failures.specs.declared.message.UserKey.{UserKey}
use Rattle.test_failures.specs.declared.sample.Sample.{Sample}
use Rattle.test_failures.specs.declared.sample.SampleFields.{SampleFields}
use Rattle.test_failures.specs.declared.sample.SampleKey.TheVariants as sample_keys
use Rattle.test_failures.specs.declared.sample.SampleKey.{SampleKey}
use Rattle.test_failures.specs.declared.unfit.Unfit.TheVariants as cause
use Rattle.test_failures.specs.declared.unfit.Unfit.{Unfit}

-- ---- three scalars
abbrev pub config_fields : List (Field Unfit)
config_fields =
    required "host" text cause.Missing
    ∷ required "port" (between 1 65535 cause.Range) cause.Missing
    ∷ defaulted "debug" flag false
    ∷ []

abbrev pub config : Meaning Unfit (Finals config_fields)
config = object (table config_fields) refl

abbrev pub config_key : ConfigKey → List ℕ
config_key config_keys.Host = codes "host"
config_key config_keys.Port = codes "port"
config_key config_keys.Debug = codes "debug"

abbrev pub config_slots : ConfigFields → Slots config_fields
config_slots c = (option_map string_bytes c.host, (c.port, (c.debug, tt)))

abbrev pub config_view : Config → Finals config_fields
config_view c = (string_bytes c.host, (c.port, (c.debug, tt)))

-- ---- a user, who has no other member and one name
abbrev pub user_fields : List (Field Unfit)
user_fields =
    once cause.Repeated (required "name" text cause.Missing)
    ∷ defaulted "tags" (list text) []
    ∷ []

abbrev pub user_table : Table Unfit
user_table = only cause.Unknown user_fields

abbrev pub user : Meaning Unfit (Finals user_fields)
user = object user_table refl

abbrev pub user_key : UserKey → List ℕ
user_key user_keys.Name = codes "name"
user_key user_keys.Tags = codes "tags"

abbrev pub user_slots : UserFields → Slots user_fields
user_slots u = (option_map string_bytes u.name, (option_map (λ tags. map string_bytes tags.items) u.tags, tt))

abbrev pub user_view : User → Finals user_fields
user_view u = (string_bytes u.name, (map string_bytes u.tags.items, tt))

-- ---- a message
abbrev pub message_fields : List (Field Unfit)
message_fields =
    required "user" user cause.Missing
    ∷ defaulted "copies" (list user) []
    ∷ optional "price" number_source
    ∷ []

abbrev pub message : Meaning Unfit (Finals message_fields)
message = object (table message_fields) refl

abbrev pub message_key : MessageKey → List ℕ
message_key message_keys.User = codes "user"
message_key message_keys.Copies = codes "copies"
message_key message_keys.Price = codes "price"

abbrev pub message_slots : MessageFields → Slots message_fields
message_slots m = (
  option_map user_view m.user,
  (
    option_map (λ copies. map user_view copies.items) m.copies,
    (option_map (λ price. price.now) m.price, tt),
  ),
)

abbrev pub message_view : Message → Finals message_fields
message_view m = (user_view m.user, (map user_view m.copies.items, (option_map (λ price. price.now) m.price, tt)))

-- ---- an event
abbrev pub states : List (String × State)
states = ("open", state.Open) ∷ ("closed", state.Closed) ∷ []

abbrev pub event_fields : List (Field Unfit)
event_fields =
    required "state" (name_by (named states) cause.NoState) cause.Missing
    ∷ required "data" tree cause.Missing
    ∷ defaulted "note" (or_null text) None
    ∷ []

abbrev pub event : Meaning Unfit (Finals event_fields)
event = object (table event_fields) refl

abbrev pub event_key : EventKey → List ℕ
event_key event_keys.State = codes "state"
event_key event_keys.Data = codes "data"
event_key event_keys.Note = codes "note"

abbrev pub event_slots : EventFields → Slots event_fields
event_slots e = (e.state, (option_map view e.data, (option_map (option_map string_bytes) e.note, tt)))

abbrev pub event_view : Event → Finals event_fields
event_view e = (e.state, (view e.data, (option_map string_bytes e.note, tt)))

-- ---- a sample
abbrev pub sample_fields : List (Field Unfit)
sample_fields =
    required "on" flag cause.Missing
    ∷ required "count" (between 0 1000 cause.Range) cause.Missing
    ∷ required "price" number_source cause.Missing
    ∷ required "source" source cause.Missing
    ∷ []

abbrev pub sample : Meaning Unfit (Finals sample_fields)
sample = object (table sample_fields) refl

abbrev pub sample_key : SampleKey → List ℕ
sample_key sample_keys.On = codes "on"
sample_key sample_keys.Count = codes "count"
sample_key sample_keys.Price = codes "price"
sample_key sample_keys.Source = codes "source"

abbrev pub sample_slots : SampleFields → Slots sample_fields
sample_slots s = (
  s.is_on,
  (s.count, (option_map (λ x. x.now) s.price, (option_map (λ x. x.now) s.source, tt))),
)

abbrev pub sample_view : Sample → Finals sample_fields
sample_view s = (s.is_on, (s.count, (s.price.now, (s.source.now, tt))))

-- ---- what an error prints
abbrev pub unfit_text : Unfit → List ℕ
unfit_text cause.Range = codes "out of range"
unfit_text cause.NoState = codes "no state"
unfit_text cause.Missing = codes "missing field"
unfit_text cause.Repeated = codes "duplicate key"
unfit_text cause.Unknown = codes "unknown key"
