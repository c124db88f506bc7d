-- What is true of each place in the table is true of the place that a path names. So a driver is granted only the driver's own tasks, and
-- whatever is posted is a command.
use Rattle.std.proofs.Common.{◌≡◌, ◌∙◌, ℕ, Bool, true, false, List, Option, None, Some, IfSome, Result, Ok, Err, IfOk, option_map, ap, refl}
use Rattle.std.proofs.Common.{sym}
use Rattle.std.proofs.Common.{subst, if◌then◌else◌}
use Rattle.matchit.proofs.OnLiterals.{matchit_on_literals}
use Rattle.matchit.proofs.RenameLemmas.{first-rename}
use Rattle.matchit.specs.Router.{RouteOf, map_key, rename}
use Rattle.matchit.specs.Seek.{first}
use Rattle.tacho_desk.specs.Wants.{is_command, is_own}
use Rattle.tacho_desk.specs.Words.{Wish}
use Rattle.tacho_desk.specs.declared.want.Want.{Want}
use Rattle.tacho_message.specs.Length.{method_of}
use Rattle.tacho_message.specs.declared.method.Method.{Method}
use Rattle.tacho_message.specs.declared.method.Method.TheVariants as method
use Rattle.tacho_message.specs.declared.reply.Status.{Status}
use Rattle.tacho_message.specs.declared.reply.Status.TheVariants as status
use Rattle.tacho_http.specs.Access.{OwnWants, PostsAreCommands}
use Rattle.tacho_http.specs.Asked.{is_post, same_asker, wish_at, wish_by, wish_of}
use Rattle.tacho_http.specs.Routes.{Named, Rows, named_by, named_in, routes, with_offers}
use Rattle.tacho_http.specs.declared.places.Asker.{Asker}
use Rattle.tacho_http.specs.declared.places.Asker.TheVariants.{Driver}
use Rattle.tacho_http.specs.declared.places.Place.{Place}

-- the rows, each with what a test says of its place
abbrev Tests : (Place → Bool) → Rows → Bool → Type 0
Tests test rows is = rename (λ route. test route.value) rows ≡ rename (λ route. is) rows

module _ (P : Want → Type 0) (a : Asker) where
  -- what is at a place meets P, if the place is for the asker
  abbrev Fits : Asker → Want → Type 0
  Fits asker want = same_asker a asker ≡ true → P want

  -- what a test says of each place where a method is offered, it says of the place that a path names for the method: a walk reads patterns
  -- alone, so it finds the test's answer in the row of that place
  in_route : (m : Method) (test : Place → Bool) (is : Bool) → Tests test (routes m) is → ((place : Place) → test place ≡ is → Fits place.asker place.want)
      → (path : List ℕ) → IfSome (named_in (routes m) path) (λ named. Fits named.asker named.wish.want)
  in_route m test is same fits path =
      by (first (routes m) path) (sym (first-rename (λ route. test route.value) (routes m) path)
      ∙ (ap (λ rows. first rows path) same ∙ first-rename (λ route. is) (routes m) path))
    where
      by : (found : Option (RouteOf Place)) → map_key (λ route. test route.value) found ≡ map_key (λ route. is) found
          → IfSome (option_map (named_by path) found) (λ named. Fits named.asker named.wish.want)
      by None e = tt
      by (Some route) e = fits route.value cc

  -- what is granted meets P
  abbrev Grants : Result Wish Status → Type 0
  Grants answer = IfOk answer (λ w. P w.want)

  -- what is granted is what the path names for the method
  of_names : (found other : Option Named) → IfSome found (λ named. Fits named.asker named.wish.want) → Grants (wish_at a found other)
  of_names None (Some named) h = tt
  of_names None None h = tt
  of_names (Some named) other h = by (same_asker a named.asker) h
    where
      by : (mine : Bool) → (mine ≡ true → P named.wish.want) → Grants (if mine then Ok named.wish else Err status.Forbidden)
      by true h = h refl
      by false h = tt

  -- by another method nothing is granted
  of_none : (get post : Option Named) → Grants (wish_by a None get post)
  of_none None None = tt
  of_none get post = tt

-- ---- a driver is granted only their own tasks

-- the place isn't for a driver, or the task is a driver's own
abbrev is_fit : Place → Bool
is_fit place = if same_asker Driver place.asker then is_own place.want else true

each_own : (m : Method) → Tests is_fit (routes m) true
unfolding matchit_on_literals routes with_offers
each_own method.Get = refl
each_own method.Post = refl

pub own_wants : OwnWants
own_wants text path w e = subst (Grants IsOwn Driver) e (by (method_of text))
  where
    IsOwn : Want → Type 0
    IsOwn want = is_own want ≡ true

    fit : (place : Place) → is_fit place ≡ true → Fits IsOwn Driver place.asker place.want
    fit place is mine = rw mine at is

    by : (m : Option Method)
        → Grants IsOwn Driver (wish_by Driver m (named_in (routes method.Get) path) (named_in (routes method.Post) path))
    by None = of_none IsOwn Driver _ _
    by (Some method.Get) = of_names IsOwn Driver _ _ (in_route IsOwn Driver method.Get is_fit true (each_own method.Get) fit path)
    by (Some method.Post) = of_names IsOwn Driver _ _ (in_route IsOwn Driver method.Post is_fit true (each_own method.Post) fit path)

-- ---- what is posted is a command, and what isn't posted is a reading, whoever asks

each_want : (m : Method) → Tests (λ place. is_command place.want) (routes m) (is_post (Some m))
unfolding matchit_on_literals routes with_offers
each_want method.Get = refl
each_want method.Post = refl

pub commands_are_posted : (a : Asker) (text path : List ℕ) (w : Wish) → wish_of a text path ≡ Ok w
    → is_command w.want ≡ is_post (method_of text)
commands_are_posted a text path w e = subst (Grants (Is (is_post (method_of text))) a) e (by (method_of text))
  where
    Is : Bool → Want → Type 0
    Is posted want = is_command want ≡ posted

    by : (m : Option Method)
        → Grants (Is (is_post m)) a (wish_by a m (named_in (routes method.Get) path) (named_in (routes method.Post) path))
    by None = of_none (Is false) a _ _
    by (Some method.Get) = of_names _ a _ _ (in_route (Is false) a method.Get _ false (each_want method.Get) (λ place is mine. is) path)
    by (Some method.Post) = of_names _ a _ _ (in_route (Is true) a method.Post _ true (each_want method.Post) (λ place is mine. is) path)

pub posts_are_commands : PostsAreCommands
posts_are_commands a text path w e posts = commands_are_posted a text path w e ∙ posts
