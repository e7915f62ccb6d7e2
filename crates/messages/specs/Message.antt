-- What a message is.
use Rattle.std.specs.Prelude.{ℕ, List, [], ◌∷◌, codes, map, option_map, refl, string_bytes}
use Rattle.jiter_walk.specs.Meanings.{between, list, number_source, object, text}
use Rattle.jiter_walk.specs.Table.{Field, Finals, Meaning, Slots, Table, defaulted, once, only, optional, required}
use Rattle.messages.specs.declared.message.Message.{Message}
use Rattle.messages.specs.declared.message.MessageFields.{MessageFields}
use Rattle.messages.specs.declared.message.Key.{Key}
use Rattle.messages.specs.declared.message.Key.TheVariants as key
use Rattle.messages.specs.declared.message.Unfit.{Unfit}
use Rattle.messages.specs.declared.message.Unfit.TheVariants as cause
use Rattle.messages.specs.declared.message.User.{User}
use Rattle.messages.specs.declared.message.UserFields.{UserFields}

abbrev pub name : Key → List ℕ
name key.Id = codes "id"
name key.User = codes "user"
name key.Copies = codes "copies"
name key.Price = codes "price"
name key.Name = codes "name"
name key.Tags = codes "tags"

-- ---- a user
abbrev pub user_fields : List (Field Unfit)
user_fields =
    once cause.Repeated (required "name" text cause.NoName)
    ∷ defaulted "tags" (list text) []
    ∷ []

-- No other member may be there.
abbrev pub user_table : Table Unfit
user_table = only cause.Unknown user_fields

abbrev pub user : Meaning Unfit (Finals user_fields)
user = object user_table refl

abbrev pub user_slots : UserFields → Slots user_fields
user_slots u = (option_map string_bytes u.name, (option_map (λ tags. map string_bytes tags.items) u.tags, tt))

abbrev pub user_view : User → Finals user_fields
user_view u = (string_bytes u.name, (map string_bytes u.tags.items, tt))

-- ---- a message
-- Other members are skipped.
abbrev pub fields : List (Field Unfit)
fields =
    required "id" (between 0 4294967295 cause.Id) cause.NoId
    ∷ required "user" user cause.NoUser
    ∷ defaulted "copies" (list user) []
    ∷ optional "price" number_source
    ∷ []

abbrev pub message_slots : MessageFields → Slots fields
message_slots m = (
  m.id,
  (
    option_map user_view m.user,
    (
      option_map (λ copies. map user_view copies.items) m.copies,
      (option_map (λ price. price.now) m.price, tt),
    ),
  ),
)

abbrev pub message_view : Message → Finals fields
message_view m = (m.id, (user_view m.user, (map user_view m.copies.items, (option_map (λ price. price.now) m.price, tt))))

-- ---- what an error prints
abbrev pub unfit_text : Unfit → List ℕ
unfit_text cause.Id = codes "no id below 4294967296"
unfit_text cause.NoId = codes "id is missing"
unfit_text cause.NoUser = codes "user is missing"
unfit_text cause.NoName = codes "name is missing"
unfit_text cause.Repeated = codes "duplicate key"
unfit_text cause.Unknown = codes "unknown key"
