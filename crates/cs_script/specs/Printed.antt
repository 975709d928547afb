-- What a script prints, and what its lines do to a world.
use Rattle.std.specs.Prelude.{◌≡◌, ◌≢◌, ℕ, List, [], ◌∷◌, ◌++◌, codes, decimal, slice_set, None, Ok}
use Rattle.std.specs.Prelude.{Err}
use Rattle.hex.specs.Hex.{encode_lower}
use Rattle.cs_names.specs.Reading.{ReadsAs}
use Rattle.cs_names.specs.declared.rule_id.RuleId.TheVariants.{S5}
use Rattle.cs_session.specs.Messages.{IsAnswered}
use Rattle.cs_session.specs.Receiving.{IsReplied, wire_of, tag_in}
use Rattle.cs_session.specs.declared.message.Message.TheVariants.{HangUp as Ends}
use Rattle.cs_session.specs.declared.reply.Reply.TheVariants.{Closed, Error}
use Rattle.cs_users.specs.Faults.{fault_text}
use Rattle.cs_users.specs.Reading.{users_in}
use Rattle.cs_users.specs.Rows.{Row}
use Rattle.cs_users.specs.declared.fault.UsersFault.{UsersFault}
use Rattle.cs_users.specs.declared.fault.UsersFault.TheVariants.{Memory}
use Rattle.cs_wire.specs.Messages.{Message, replies, spelling}
use Rattle.cs_world.specs.Asking.{IsGiven}
use Rattle.cs_world.specs.Steps.{IsStep}
use Rattle.cs_world.specs.Worlds.{World, session_at}
use Rattle.cs_world.specs.declared.reply.Reply.TheVariants.{Reloaded, NotReloaded}
use Rattle.cs_world.specs.declared.step.Step.TheVariants.{Reload as Loads}
use Rattle.cs_script.specs.declared.script.Action.{Action}
use Rattle.cs_script.specs.declared.script.Action.TheVariants.{Send, HangUp}
use Rattle.cs_script.specs.declared.script.ScriptLine.{ScriptLine}
use Rattle.cs_script.specs.declared.script.ScriptLine.TheVariants.{Act, Reload}

-- ---- lines of text

-- the connection, a space, and the reply's bytes in lower case hexadecimal
abbrev pub reply_text : ℕ → Message replies → List ℕ
reply_text conn reply = decimal conn ++ (codes " " ++ (encode_lower (spelling reply) ++ codes "\n"))

abbrev pub closed_text : ℕ → List ℕ
closed_text conn = decimal conn ++ codes " closed\n"

abbrev pub reloaded_text : List ℕ
reloaded_text = codes "reloaded\n"

abbrev pub refused_text : UsersFault → List ℕ
refused_text fault = codes "reload refused: " ++ (fault_text fault ++ codes "\n")

-- ---- what a line does

-- a message of a connection was answered: by its steps; or by S5, and nothing changes, while a run
-- awaits its attach
pub record Replies (w : World) (conn now : ℕ) (message : List ℕ) (reply : Message replies)
    (w' : World) : Type 0 where
  pub replied : (session_at w conn).awaited ≡ None → IsReplied IsGiven now message
      (session_at w conn) w.registry reply (session_at w' conn) w'.registry
  pub out_of_turn : (session_at w conn).awaited ≢ None
      → (reply ≡ wire_of (tag_in message) (Error S5)) × (w' ≡ w)
  pub others : w'.connections ≡ slice_set w.connections conn (session_at w' conn)

-- a connection was hung up; nothing changes while a run awaits its attach
pub record Closes (w : World) (conn now : ℕ) (w' : World) : Type 0 where
  pub closed : (session_at w conn).awaited ≡ None → IsAnswered IsGiven now Ends
      (session_at w conn) w.registry Closed (session_at w' conn) w'.registry
  pub out_of_turn : (session_at w conn).awaited ≢ None → w' ≡ w
  pub others : w'.connections ≡ slice_set w.connections conn (session_at w' conn)

-- what a connection does leads there, and this is printed
abbrev pub Acts : World → ℕ → ℕ → Action → List ℕ → World → Type 0
Acts w conn now (Send message) text w' = (reply : Message replies)
    × Replies w conn now message reply w' × (text ≡ reply_text conn reply)
Acts w conn now HangUp text w' = Closes w conn now w' × (text ≡ closed_text conn)

-- a users file leads there, and this is printed
pub data Loaded (w : World) (file text : List ℕ) (w' : World) : Type 0 where
  -- the runs that are made from then on have its users
  Taken : (users : List Row) → users_in file ≡ Ok users → IsStep w (Loads users) Reloaded w'
      → text ≡ reloaded_text → Loaded w file text w'
  -- no memory is left to keep its users
  NotKept : (users : List Row) → users_in file ≡ Ok users → IsStep w (Loads users) NotReloaded w'
      → text ≡ refused_text Memory → Loaded w file text w'
  -- it has a fault, or no memory is left to read it
  NotRead : (fault : UsersFault) → ReadsAs Memory (Err fault) (users_in file) → w' ≡ w
      → text ≡ refused_text fault → Loaded w file text w'

-- a line leads there, and this is printed
abbrev pub Prints : World → ScriptLine → List ℕ → World → Type 0
Prints w (Act asked) text w' = Acts w asked.conn asked.moment asked.action text w'
Prints w (Reload file) text w' = Loaded w file text w'

-- lines lead there, one after the other, and print this together
abbrev pub PrintsAll : World → List ScriptLine → List ℕ → World → Type 0
PrintsAll w [] text w' = (text ≡ []) × (w' ≡ w)
PrintsAll w (line ∷ lines) text w' = (front back : List ℕ) × (mid : World)
    × Prints w line front mid × PrintsAll mid lines back w' × (text ≡ front ++ back)
