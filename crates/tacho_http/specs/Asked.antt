-- Trusted in part: What a request asks for, by who asks, its method and its path.
use Rattle.std.specs.Prelude.{Bool, true, false, List, ℕ, Option, Some, None, Result, Ok, Err, if◌then◌else◌}
use Rattle.tacho_state.specs.declared.caller.Caller.{Caller}
use Rattle.tacho_state.specs.declared.caller.Caller.TheVariants as caller
use Rattle.tacho_desk.specs.Words.{Wish, wish_in}
use Rattle.tacho_desk.specs.declared.want.Wish.{Wish as WishValue}
use Rattle.tacho_message.specs.Length.{method_of}
use Rattle.tacho_message.specs.declared.method.Method.{Method}
use Rattle.tacho_message.specs.declared.method.Method.TheVariants as method
use Rattle.tacho_message.specs.declared.reply.Status.{Status}
use Rattle.tacho_message.specs.declared.reply.Status.TheVariants as status
use Rattle.tacho_http.specs.Routes.{Named, named_in, routes}
use Rattle.tacho_http.specs.declared.places.Asker.{Asker}
use Rattle.tacho_http.specs.declared.places.Asker.TheVariants.{Driver, Office}

-- who asks
abbrev pub asker_of : Caller → Asker
asker_of caller.Office = Office
asker_of (caller.Driver n) = Driver

-- the place is for this asker
abbrev pub same_asker : Asker → Asker → Bool
same_asker Office Office = true
same_asker Driver Driver = true
same_asker a b = false

-- 403, or what is asked for
abbrev pub wish_granted : Asker → Named → Result Wish Status
wish_granted a named = if same_asker a named.asker then Ok named.wish else Err status.Forbidden

-- what the path names for the method; otherwise 405 if it names something for another method, and 404 if it names nothing
abbrev pub wish_at : Asker → Option Named → Option Named → Result Wish Status
wish_at a (Some named) other = wish_granted a named
wish_at a None (Some other) = Err status.MethodNotAllowed
wish_at a None None = Err status.NotFound

-- by the method, from what the path names for GET and for POST
abbrev pub wish_by : Asker → Option Method → Option Named → Option Named → Result Wish Status
wish_by a (Some method.Get) get post = wish_at a get post
wish_by a (Some method.Post) get post = wish_at a post get
wish_by a None None post = wish_at a None post
wish_by a None (Some named) post = wish_at a None (Some named)

abbrev pub wish_of : Asker → List ℕ → List ℕ → Result Wish Status
wish_of a text path = wish_by a (method_of text) (named_in (routes method.Get) path) (named_in (routes method.Post) path)

-- the method is POST, by which only commands are asked for
abbrev pub is_post : Option Method → Bool
is_post (Some method.Post) = true
is_post other = false

-- what the code found
abbrev pub wish_found : Result WishValue Status → Result Wish Status
wish_found (Ok w) = Ok (wish_in w)
wish_found (Err refusal) = Err refusal
