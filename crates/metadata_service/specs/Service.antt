-- What the metadata service answers.
use Rattle.std.specs.Prelude.{ℕ, ◌&&◌, Bool, true, false, if◌then◌else◌, List, [], ◌∷◌, take, Option, Some, None, option_map, option_and_then, unwrap_or, codes}
use Rattle.std.specs.List.{find}
use Rattle.std.specs.Str.{bytes_eq}
use Rattle.serde_json.specs.Data.{Data}
use Rattle.serde_json.specs.Written.{compact_text}
use Rattle.http_stream.specs.Body.{is_named}
use Rattle.http_stream.specs.declared.request.Request.{Request}
use Rattle.script_words.specs.Numbers.{word_text}
use Rattle.metadata_store.specs.declared.version.MetadataVersion.{MetadataVersion}
use Rattle.metadata_store.specs.declared.version.MetadataVersion.TheVariants.{V1, V2}
use Rattle.metadata_service.specs.declared.reply.Reply.{Reply}
use Rattle.metadata_service.specs.declared.token.Token.{Token}
use Rattle.metadata_service.specs.Paths.{found}
use Rattle.metadata_service.specs.Shown.{plain_text}
use Rattle.metadata_service.specs.Tokens.{accepts, life_of}

-- a service: its version, and the tokens that it gave, the newest first
pub record Served : Type 0 where
  pub version : MetadataVersion
  pub tokens : List Token

pub record Answer : Type 0 where
  pub reply : Reply
  pub after : Served

abbrev pub most_tokens : ℕ
most_tokens = 64

-- the value of the first header of that name
abbrev pub header : List ℕ → Request → Option (List ℕ)
header name r = option_map (λ h. h.1) (find (is_named name) r.headers)

-- ---- what a request asks for

abbrev pub is_get : Request → Bool
is_get r = bytes_eq r.method (codes "GET")

-- a token, which version 2 alone gives
abbrev pub asks_token : MetadataVersion → Request → Bool
asks_token V1 r = false
asks_token V2 r = bytes_eq r.method (codes "PUT") && bytes_eq r.path (codes "/latest/api/token")

-- ---- a look at the store

abbrev pub bare : ℕ → Reply
bare status = record { status = status; body = [] }

abbrev pub found_text : List ℕ → Reply
found_text text = record { status = 200; body = text }

-- version 2 asks for a live token
abbrev pub is_admitted : MetadataVersion → List Token → Request → ℕ → Bool
is_admitted V1 tokens r now = true
is_admitted V2 tokens r now = unwrap_or (option_map (accepts now tokens) (header (codes "x-metadata-token") r)) false

abbrev pub wants_json : Request → Bool
wants_json r = unwrap_or (option_map (bytes_eq (codes "application/json")) (header (codes "accept") r)) false

-- 501 for what has no text
abbrev pub plain_reply : Option (List ℕ) → Reply
plain_reply None = bare 501
plain_reply (Some text) = found_text text

-- 404 where there is no value
abbrev pub shown : Bool → Option Data → Reply
shown json None = bare 404
shown json (Some d) = if json then found_text (compact_text d) else plain_reply (plain_text d)

abbrev pub look : MetadataVersion → List Token → Data → Request → ℕ → Reply
look version tokens store r now =
    if is_admitted version tokens r now then shown (wants_json r) (found r.path store) else bare 401

-- ---- a token

-- the newest tokens: of too many the oldest go
abbrev pub newest : List Token → List Token
newest tokens = take most_tokens tokens

-- a token has its word's digits as its text; without a life none is given
abbrev pub given : Served → ℕ → ℕ → Option ℕ → Answer
given s now word None = record { reply = bare 400; after = s }
given s now word (Some seconds) = record {
  reply = found_text (word_text word);
  after = record s { tokens = newest (record { word = word; made = now; seconds = seconds } ∷ s.tokens) };
}

-- in seconds
abbrev pub asked_life : Request → Option ℕ
asked_life r = option_and_then life_of (header (codes "x-metadata-token-ttl-seconds") r)

-- ---- the answer

-- to a request at this moment of guest time, in nanoseconds, with the word of a token that may be asked for
unfoldable pub answer : Served → Data → Request → ℕ → ℕ → Answer
answer s store r now word =
    if is_get r then record { reply = look s.version s.tokens store r now; after = s }
    else (if asks_token s.version r then given s now word (asked_life r)
    else record { reply = bare 405; after = s })
