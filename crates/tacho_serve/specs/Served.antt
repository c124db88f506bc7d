-- Trusted: What a server does to an archive.
use Rattle.std.specs.Prelude.{ℕ, List}
use Rattle.tacho_message.specs.declared.reply.PageFile.{PageFile}
use Rattle.tacho_state.specs.State.{State}
use Rattle.tacho_desk.specs.Doing.{Kept}
use Rattle.tacho_http.specs.Pages.{ReactsOrGives}
use Rattle.tacho_http.specs.Reply.{Reply}
use Rattle.tacho_http.specs.Run.{Leaves}

-- Requests alone lead from one state of an archive to another, and likewise from the states that a crash may leave to others. Each request
-- gets a reply that its input may get, with these page files and this key of the office.
pub data IsServed (files : List PageFile) (office : List ℕ) (a : Kept) : Kept → Type 0 where
  none : IsServed files office a a
  more : {m b : Kept} (input : List ℕ) (reply : Reply) → IsServed files office a m
      → ReactsOrGives files office input m.state reply b.state
      → Leaves input (ReactsOrGives files office input m.state) reply b.state m.past b.past
      → IsServed files office a b

-- A server changed an archive by requests alone. If the archive is clean now, it was clean before.
pub record ChangesByRequests {K : Type 0} (files : List PageFile) (office : List ℕ) (stands : K → State → Type 0) (is_clean : K → Type 0)
    (leaves : K → List State → Type 0) (old new : K) : Type 0 where
  pub clean : is_clean new → is_clean old
  pub served : is_clean new → (a : Kept) → stands old a.state → leaves old a.past
      → (b : Kept) × stands new b.state × leaves new b.past × IsServed files office a b
