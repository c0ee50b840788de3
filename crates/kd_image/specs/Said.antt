-- What an image is made of, what it says, and which values can be made an image of.
use Rattle.std.specs.Prelude.{◌≡◌, ◌≢◌, ℕ, ◌+◌, ◌^◌, ◌<◌, ◌≤◌, pos, List, [], length, Some, None, Result, Ok, Err, true, IfSome, FitsSigned}
use Rattle.std.specs.List.{AllByRecursion}
use Rattle.std.specs.Int.{w64}
use Rattle.std.specs.Str.{is_utf8}
use Rattle.kd_types.specs.Flags.{has_only}
use Rattle.kd_types.specs.declared.reply_error.ReplyError.{ReplyError}
use Rattle.kd_types.specs.declared.reply_error.ReplyError.TheVariants.{OutOfMemory}
use Rattle.kd_image.specs.declared.message.Message.{Message}
use Rattle.kd_image.specs.declared.attached.Attached.{Attached}
use Rattle.kd_image.specs.declared.notice.Notice.{Notice}
use Rattle.kd_image.specs.declared.notice.Notice.TheVariants.{IdAdd, IdRemove, NameAdd, NameRemove, NameChange, ReplyTimeout, ReplyDead}
use Rattle.kd_image.specs.declared.image.Image.{Image}
use Rattle.kd_image.specs.Items.{Contents, contents, begins, rising}
use Rattle.kd_item.specs.Spelling.{spelling}
use Rattle.kd_image.specs.Images.{front_length, image, notice_item, notice_image, notice_destination, notice_last}

-- what an image is made of
pub data Origin : Type 0 where
  sent : Message → ℕ → ℕ → Attached → Origin
  told : Notice → ℕ → Origin

-- its bytes
abbrev pub origin_bytes : Origin → List ℕ
origin_bytes (sent m source dst a) = image m source dst a
origin_bytes (told n dst) = notice_image n dst

abbrev pub nothing_attached : Attached
nothing_attached = record { creds = None; names = []; description = None; moment = None }

-- what it says
abbrev pub image_of_origin : Origin → Image
image_of_origin (sent m source dst a) = record {
  size = front_length (contents m a);
  flags = m.flags.0;
  priority = m.priority;
  dst = dst;
  source = source;
  payload_type = m.payload_type;
  cookie = m.cookie;
  last = m.last;
  attached = a;
  dst_name = m.dst_name;
  payloads = m.payloads;
  shared = m.sealed;
  notice = None;
}
image_of_origin (told n dst) = record {
  size = length (notice_image n dst);
  flags = 0;
  priority = pos 0;
  dst = notice_destination n dst;
  source = 0;
  payload_type = 0;
  cookie = 0;
  last = notice_last n;
  attached = nothing_attached;
  dst_name = None;
  payloads = [];
  shared = None;
  notice = Some n;
}

abbrev pub IsWord : ℕ → Type 0
IsWord n = n < 2 ^ 64

abbrev pub IsText : List ℕ → Type 0
IsText text = is_utf8 text ≡ true

-- items can tell this, in an image whose header and items have so many bytes: numbers are of their
-- width, texts are texts, names rise in byte order, a description isn't too long, a message has at
-- most 16 payloads, and the range stands among them
pub record IsTold (size : ℕ) (c : Contents) : Type 0 where
  pub creds : IfSome c.creds (λ x. (x.uid < 2 ^ 32) × (x.gid < 2 ^ 32))
  pub names : AllByRecursion IsText c.names
  pub order : rising c.names ≡ true
  pub description : IfSome c.description (λ t. (length t ≤ 255) × IsText t)
  pub moment : IfSome c.moment IsWord
  pub name : IfSome c.name IsText
  pub few : length c.lengths ≤ 16
  pub ends : begins size c.lengths < 2 ^ 64
  pub range : IfSome c.range (λ r. (r.place ≤ length c.lengths) × IsWord r.start × IsWord r.length)

-- a message that can be sent, with what can be attached to it
pub record IsSent (m : Message) (sender destination : ℕ) (a : Attached) : Type 0 where
  pub flags : has_only m.flags.0 7 ≡ true
  pub priority : FitsSigned w64 m.priority
  pub source : IsWord sender
  pub dst : IsWord destination
  pub payload_type : IsWord m.payload_type
  pub cookie : IsWord m.cookie
  pub last : IsWord m.last
  pub items : IsTold (front_length (contents m a)) (contents m a)

-- a notice that the bus can tell
abbrev pub IsNotice : Notice → Type 0
IsNotice (IdAdd id) = IsWord id
IsNotice (IdRemove id) = IsWord id
IsNotice (NameAdd old new name) = IsWord old × IsWord new × IsText name
IsNotice (NameRemove old new name) = IsWord old × IsWord new × IsText name
IsNotice (NameChange old new name) = IsWord old × IsWord new × IsText name
IsNotice (ReplyTimeout cookie) = IsWord cookie
IsNotice (ReplyDead cookie) = IsWord cookie

-- what an image can be made of
abbrev pub IsSound : Origin → Type 0
IsSound (sent m source dst a) = IsSent m source dst a
IsSound (told n dst) = IsNotice n × IsWord dst × IsWord (64 + length (spelling (notice_item n)))

-- an error other than want of memory tells where the bytes break
abbrev pub BreaksSo : {X : Type 0} → ReplyError → Result X ReplyError → Type 0
BreaksSo error read = error ≢ OutOfMemory → read ≡ Err error

-- the answer is this value, unless memory ran out
abbrev pub Gives : Result Image ReplyError → Image → Type 0
Gives (Ok i) v = i ≡ v
Gives (Err e) v = e ≡ OutOfMemory
