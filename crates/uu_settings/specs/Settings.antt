-- What a TOML document (TOML 1.1) sets for a site. The keys, their order and their limits are this
-- project's choice.
use Rattle.std.specs.Prelude.{◌≡◌, ℕ, suc, pos, nat_abs, int_le, not, ◌==◌, length, filter, take, Bool, List, [], ◌∷◌, Option, Some, None, Result, Ok, Err, ⊤, if◌then◌else◌, ok_or, option_map, option_and_then, string_bytes}
use Rattle.std.specs.Result.{result_ok}
use Rattle.toml.specs.Data.{Data, Items, Members, no_items, item, as_str, as_integer, as_array, get_member}
use Rattle.toml.specs.Errors.{IsWithin, span_start}
use Rattle.toml.specs.Parse.{parse_document}
use Rattle.uu_names.specs.Name.{site_name_of, word_of}
use Rattle.uu_times.specs.Zone.{TzText, always, zone_of}
use Rattle.uu_times.specs.Zone as clocks
use Rattle.uu_settings.specs.Fault.{key_name}
use Rattle.uu_settings.specs.Offsets.{is_offset}
use Rattle.uu_settings.specs.declared.fault.Key.{Key}
use Rattle.uu_settings.specs.declared.fault.Key.TheVariants as key
use Rattle.uu_settings.specs.declared.fault.SettingsFault.{SettingsFault}
use Rattle.uu_settings.specs.declared.fault.TomlFault.{TomlFault}
use Rattle.uu_settings.specs.declared.fault.SettingsFault.TheVariants.{NotToml, Missing, BadValue, Memory}
use Rattle.uu_settings.specs.declared.settings.Settings.{Settings}

-- what is set for a site
pub record SettingsView : Type 0 where
  pub name : List ℕ
  -- the rule of its clock
  pub zone : TzText
  -- the path of the spool's file
  pub spool : List ℕ
  -- the users who may change jobs of others
  pub admins : List (List ℕ)
  -- the path of the folder with the keys of neighbours, if bundles are sealed
  pub seals : Option (List ℕ)
  -- the bytes of the spool's file beyond which nothing is added
  pub limit : ℕ

-- ---- values

-- the value, if it passes
abbrev pub where_it : {V : Type 0} → (V → Bool) → V → Option V
where_it passes value = if passes value then Some value else None

-- a text that is a site name
abbrev pub name_in : Data → Option (List ℕ)
name_in value = option_and_then (λ text. result_ok (site_name_of text)) (as_str value)

-- a clock that is always a whole number of minutes ahead of UTC
abbrev pub offset_in : Data → Option TzText
offset_in value = option_map always (option_and_then (where_it is_offset) (as_integer value))

-- a text that is the rule of a clock
abbrev pub zone_in : Data → Option TzText
zone_in value = option_and_then zone_of (as_str value)

-- a text of one byte or more
abbrev pub path_in : Data → Option (List ℕ)
path_in value = option_and_then (where_it (λ path. not (length path == 0))) (as_str value)

-- a text that is a word
abbrev pub word_in : Data → Option (List ℕ)
word_in value = option_and_then (λ text. result_ok (word_of text)) (as_str value)

-- values each of which is a word
abbrev pub words_in : Items → Option (List (List ℕ))
words_in no_items = Some []
words_in (item value values) = option_and_then (λ word. option_map (λ words. word ∷ words) (words_in values)) (word_in value)

-- an array of words
abbrev pub admins_in : Data → Option (List (List ℕ))
admins_in value = option_and_then words_in (as_array value)

-- the least limit, and that of a site that sets none: 1 MiB and 512 MiB
abbrev pub least_limit : ℕ
least_limit = 1_048_576

abbrev pub default_limit : ℕ
default_limit = 536_870_912

-- a number of bytes that may be a limit
abbrev pub limit_in : Data → Option ℕ
limit_in value = option_map nat_abs (option_and_then (where_it (int_le (pos least_limit))) (as_integer value))

-- ---- keys

-- the value of a required key
abbrev pub required_as : {V : Type 0} → Key → (Data → Option V) → Option Data → Result V SettingsFault
required_as key read None = Err (Missing key)
required_as key read (Some value) = ok_or (read value) (BadValue key)

abbrev pub required : {V : Type 0} → Key → (Data → Option V) → Members → Result V SettingsFault
required key read document = required_as key read (get_member (key_name key) document)

-- the value of an optional key
abbrev pub optional_as : {V : Type 0} → Key → (Data → Option V) → V → Option Data → Result V SettingsFault
optional_as key read default None = Ok default
optional_as key read default (Some value) = ok_or (read value) (BadValue key)

abbrev pub optional : {V : Type 0} → Key → (Data → Option V) → V → Members → Result V SettingsFault
optional key read default document = optional_as key read default (get_member (key_name key) document)

-- the result of the first reading, and then of the next; the first fault is reported
abbrev pub and_then : {V W : Type 0} → Result V SettingsFault → (V → Result W SettingsFault) → Result W SettingsFault
and_then (Ok value) next = next value
and_then (Err fault) next = Err fault

-- the clock from its minutes, if they are given
abbrev pub offset : Members → Result (Option TzText) SettingsFault
offset document = optional key.Offset (λ value. option_map Some (offset_in value)) None document

-- the clock from its minutes or from a rule, not from both; UTC if neither is given
abbrev pub clock_as : Option TzText → Option Data → Result TzText SettingsFault
clock_as None None = Ok (always (pos 0))
clock_as (Some minutes) None = Ok minutes
clock_as None (Some value) = ok_or (zone_in value) (BadValue key.Zone)
clock_as (Some minutes) (Some value) = Err (BadValue key.Zone)

abbrev pub clock : Option TzText → Members → Result TzText SettingsFault
clock minutes document = clock_as minutes (get_member (key_name key.Zone) document)

-- the path of a folder, if it is given
abbrev pub seals : Members → Result (Option (List ℕ)) SettingsFault
seals document = optional key.Seals (λ value. option_map Some (path_in value)) None document

-- ---- settings

-- what a document sets; other keys are ignored
abbrev pub settings_in : Members → Result SettingsView SettingsFault
settings_in document =
    and_then (required key.Name name_in document) (λ name.
    and_then (offset document) (λ minutes.
    and_then (clock minutes document) (λ zone.
    and_then (required key.Spool path_in document) (λ spool.
    and_then (optional key.Admins admins_in [] document) (λ admins.
    and_then (seals document) (λ seals.
    and_then (optional key.Limit limit_in default_limit document) (λ limit.
    Ok (record { name = name; zone = zone; spool = spool; admins = admins; seals = seals; limit = limit }))))))))

-- what the settings say
abbrev pub settings_view : Settings → SettingsView
settings_view settings = record {
  name = settings.name;
  zone = clocks.zone_view settings.zone;
  spool = string_bytes settings.spool;
  admins = settings.admins.items;
  seals = option_map string_bytes settings.seals;
  limit = settings.limit;
}

-- the answer, seen in this way, is the expected one, or it is out of memory
abbrev pub AnswersAs : {V W : Type 0} → (V → W) → Result V SettingsFault → Result W SettingsFault → Type 0
AnswersAs seen (Ok value) expected = Ok (seen value) ≡ expected
AnswersAs seen (Err Memory) expected = ⊤
AnswersAs seen (Err fault) expected = Err fault ≡ expected

-- the line of a text that has the byte at this place, counted from 1: the lines end in line feeds
abbrev pub line_at : List ℕ → ℕ → ℕ
line_at text at = suc (length (filter (λ byte. byte == 10) (take at text)))

-- an error of the TOML reader lies in the text, and this is the line in which it begins
abbrev pub IsTomlFault : List ℕ → TomlFault → Type 0
IsTomlFault text why = IsWithin text why.error × (why.line ≡ line_at text (span_start why.error))

-- the answer to a text that isn't a document: the error of the TOML reader, or out of memory
abbrev pub IsNotToml : List ℕ → Result Settings SettingsFault → Type 0
IsNotToml text (Err (NotToml why)) = IsTomlFault text why
IsNotToml text (Err Memory) = ⊤
IsNotToml text _ = ⊥

-- the answer to a text with this document, if it has one
abbrev pub IsAnswerFor : List ℕ → Option Members → Result Settings SettingsFault → Type 0
IsAnswerFor text None answer = IsNotToml text answer
IsAnswerFor text (Some document) answer = AnswersAs settings_view answer (settings_in document)

-- the answer to a text is what its document sets, or why it sets nothing
abbrev pub IsAnswerTo : List ℕ → Result Settings SettingsFault → Type 0
IsAnswerTo text answer = IsAnswerFor text (parse_document text) answer
