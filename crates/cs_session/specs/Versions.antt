-- The session that a version begins, and its reply (version(5)).
use Rattle.std.specs.Prelude.{ℕ, Bool, List, [], ◌∷◌, min, nat_lt, Option, None, Some, codes}
use Rattle.std.specs.Prelude.{if◌then◌else◌}
use Rattle.cs_names.specs.declared.limits.TheConstants.{LEAST_MESSAGE_SIZE, MESSAGE_BYTES}
use Rattle.cs_names.specs.declared.rule_id.RuleId.TheVariants.{S4}
use Rattle.cs_names.specs.Pieces.{pieces}
use Rattle.cs_names.specs.Texts.{same_bytes}
use Rattle.cs_session.specs.declared.reply.Reply.{Reply}
use Rattle.cs_session.specs.declared.reply.Reply.TheVariants as r
use Rattle.cs_session.specs.Sessions.{SessionState, empty_session}

-- the first of some pieces
abbrev pub first_piece : List (List ℕ) → List ℕ
first_piece [] = []
first_piece (piece ∷ others) = piece

-- the text up to its first period
abbrev pub before_period : List ℕ → List ℕ
before_period text = first_piece (pieces 46 text)

-- the version that this server speaks, whatever comes after a period
abbrev pub is_spoken : List ℕ → Bool
is_spoken text = same_bytes (before_period text) (codes "9P2000")

-- the message size of a session, at most the server's
abbrev pub agreed_size : ℕ → ℕ
agreed_size msize = min msize MESSAGE_BYTES

-- S4 if the client's message size is below the least one; else the smaller of the client's and the
-- server's, and whether the version is spoken
abbrev pub version_reply : ℕ → List ℕ → Reply
version_reply msize text =
    if nat_lt msize LEAST_MESSAGE_SIZE then r.Error S4
    else r.Version (agreed_size msize) (is_spoken text)

-- the message size of the session that has begun then, if one has
abbrev pub session_size : ℕ → List ℕ → Option ℕ
session_size msize text =
    if nat_lt msize LEAST_MESSAGE_SIZE then None
    else if is_spoken text then Some (agreed_size msize)
    else None

-- no fid is left, also if the version is refused
abbrev pub after_version : ℕ → List ℕ → Reply × SessionState
after_version msize text = (version_reply msize text, empty_session (session_size msize text))
