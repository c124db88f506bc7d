-- Trusted: What a driver may ask for, and what may be posted.
use Rattle.std.specs.Prelude.{◌≡◌, ℕ, List, Ok, true}
use Rattle.tacho_desk.specs.Wants.{is_command, is_own}
use Rattle.tacho_desk.specs.Words.{Wish}
use Rattle.tacho_message.specs.Length.{method_of}
use Rattle.tacho_http.specs.Asked.{is_post, wish_of}
use Rattle.tacho_http.specs.declared.places.Asker.{Asker}
use Rattle.tacho_http.specs.declared.places.Asker.TheVariants.{Driver}

-- whatever a driver's key is granted, by any method at any path, is one of the driver's own tasks
abbrev pub OwnWants : Type 0
OwnWants = (method path : List ℕ) (w : Wish) → wish_of Driver method path ≡ Ok w → is_own w.want ≡ true

-- whatever is granted to a POST, whoever asks, is a command
abbrev pub PostsAreCommands : Type 0
PostsAreCommands = (a : Asker) (method path : List ℕ) (w : Wish) → wish_of a method path ≡ Ok w → is_post (method_of method) ≡ true → is_command w.want ≡ true
