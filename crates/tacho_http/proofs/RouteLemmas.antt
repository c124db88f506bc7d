-- A router with more routes, and the routes of the table of commands.
use Rattle.std.proofs.Common.{◌≡◌, ◌∷◌, ◌++◌, ◌∙◌, ℕ, true, false, List, [], Option, None, Some, Ok, Err, Result, option_map, refl, sym}
use Rattle.matchit.proofs.OnLiterals.{matchit_on_literals}
use Rattle.matchit.proofs.RenameLemmas.{first-rename}
use Rattle.matchit.proofs.SeekLemmas.{seek-empty}
use Rattle.matchit.specs.Route.{Scan, parse_route}
use Rattle.matchit.specs.Router.{InsertsRead, RouteOf, map_key}
use Rattle.matchit.specs.Rows.{RowsOf, param_token}
use Rattle.matchit.specs.Seek.{after_param, seek, step}
use Rattle.matchit.specs.declared.error.InsertError.{InsertError}
use Rattle.tacho_desk.specs.Commands.{all_commands}
use Rattle.tacho_message.specs.declared.method.Method.TheVariants.{Get, Post}
use Rattle.tacho_http.specs.declared.places.Place.{Place}
use Rattle.tacho_http.specs.Offers.{offers_in}
use Rattle.tacho_http.specs.Routes.{Offer, Rows, driver_part, named_by, next_part, routes, with_offers, with_read, word_part}

-- a route is added if its text is valid
pub added : (rows : Rows) {after : Rows} (place : Place) (read : Result Scan InsertError) {result : Result (Unit {0}) InsertError}
    → InsertsRead read place rows after result → result ≡ Ok tt → after ≡ with_read rows place read
added rows place (Ok s) h ok = (rw ok at h).1
added rows place (Err f) h ok = h.0

-- the routes of two lists of offers, one after the other
pub with_both : (rows : Rows) (a b : List Offer) → with_offers rows (a ++ b) ≡ with_offers (with_offers rows a) b
unfolding with_offers
with_both rows [] b = refl
with_both rows (one ∷ a) b = with_both (with_read rows one.1 (parse_route one.0)) a b

-- the routes of the commands are those of the tables
pub commands_got : with_offers [] (offers_in false all_commands) ≡ routes Get
unfolding matchit_on_literals routes with_offers
commands_got = refl

pub commands_posted : with_offers [] (offers_in true all_commands) ≡ routes Post
unfolding matchit_on_literals routes with_offers
commands_posted = refl

-- ---- a walk in parts

module _ {K : Type 0} where
  -- the rows that go on after some bytes
  abbrev pub goes_on : List ℕ → RowsOf K → RowsOf K
  goes_on [] rs = rs
  goes_on (b ∷ bytes) rs = goes_on bytes (step b rs)

  -- what is found after some bytes is found
  pub by_bytes : (bytes : List ℕ) (rs : RowsOf K) (path : List ℕ) (found : K) → seek 0 (goes_on bytes rs) path ≡ Some found
      → seek 0 rs (bytes ++ path) ≡ Some found
  unfolding seek
  by_bytes [] rs path found e = e
  by_bytes (b ∷ bytes) rs path found e = rw (by_bytes bytes (step b rs) path found e) refl

  -- without rows nothing is found
  nowhere : (path : List ℕ) → seek {K = K} 0 [] path ≡ None
  nowhere path = by (seek 0 [] path) (sym (first-rename (λ key. 0) [] path) ∙ seek-empty 0 path)
    where
      by : (found : Option K) → map_key {L = ℕ} (λ key. 0) found ≡ None → found ≡ None
      by None e = refl
      by (Some key) e = cc

  -- what is found after a parameter is found, if no row goes on with its first byte
  pub by_param : (rs : RowsOf K) (b : ℕ) (path : List ℕ) (found : K) → step b rs ≡ []
      → after_param (step param_token rs) (b ∷ path) ≡ Some found → seek 0 rs (b ∷ path) ≡ Some found
  unfolding seek
  by_param rs b path found none e = rw (none, nowhere path, e) refl

-- what a path names, from the place that is found
pub of_place : (path : List ℕ) (place : Place) (found : Option (RouteOf Place)) → map_key (λ route. route.value) found ≡ Some place
    → option_map (named_by path) found ≡ Some (record {
      asker = place.asker;
      wish = record {
        want = place.want;
        driver = driver_part path;
        word = word_part place.ending path;
        next = next_part place.ending path;
      };
    })
of_place path place None e = cc
of_place path place (Some route) e = (let same : route.value ≡ place = cc in rw (← same) refl)
