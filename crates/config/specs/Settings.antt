-- What a configuration is.
use Rattle.std.specs.Prelude.{ℕ, false, List, [], ◌∷◌, codes, option_map, string_bytes}
use Rattle.jiter_walk.specs.Meanings.{between, flag, text}
use Rattle.jiter_walk.specs.Table.{Field, Finals, Slots, defaulted, required}
use Rattle.config.specs.declared.config.Config.{Config}
use Rattle.config.specs.declared.config.Key.{Key}
use Rattle.config.specs.declared.config.Key.TheVariants as key
use Rattle.config.specs.declared.config.Settings.{Settings}
use Rattle.config.specs.declared.config.Unfit.{Unfit}
use Rattle.config.specs.declared.config.Unfit.TheVariants as cause

-- The fields of a configuration; other members are skipped.
abbrev pub fields : List (Field Unfit)
fields =
    required "host" text cause.NoHost
    ∷ required "port" (between 1 65535 cause.Port) cause.NoPort
    ∷ defaulted "debug" flag false
    ∷ []

abbrev pub name : Key → List ℕ
name key.Host = codes "host"
name key.Port = codes "port"
name key.Debug = codes "debug"

abbrev pub settings_slots : Settings → Slots fields
settings_slots s = (option_map string_bytes s.host, (option_map (λ p. p.number) s.port, (s.debug, tt)))

abbrev pub config_view : Config → Finals fields
config_view c = (string_bytes c.host, (c.port.number, (c.debug, tt)))

-- what an error prints
abbrev pub unfit_text : Unfit → List ℕ
unfit_text cause.Port = codes "no port from 1 to 65535"
unfit_text cause.NoHost = codes "host is missing"
unfit_text cause.NoPort = codes "port is missing"
