-- The states to which requests lead.
use Rattle.std.proofs.Common.{◌≡◌, ℕ, List, Bool, true, false, Option, subst, sym}
use Rattle.std.specs.Prelude.{Result, ◌↔◌, IsErrOf}
use Rattle.tacho_state.specs.State.{State}
use Rattle.tacho_message.specs.declared.reply.PageFile.{PageFile}
use Rattle.tacho_desk.specs.Doing.{Kept}
use Rattle.tacho_http.specs.Answer.{Exchanged}
use Rattle.tacho_http.specs.Pages.{ReactsOrGives}
use Rattle.tacho_http.specs.Run.{WentKept}
use Rattle.tacho_http.specs.declared.exchange.IoFault.{IoFault}
use Rattle.tacho_http.specs.declared.exchange.IoFault.TheVariants as io
use Rattle.tacho_http.specs.declared.exchange.Served.{Served}
use Rattle.tacho_http.proofs.RunLemmas.{went_kept}
use Rattle.tacho_serve.specs.Served.{ChangesByRequests, IsServed}
use Rattle.tacho_serve.specs.Served.IsServed.{none, more}

-- requests, and then others
served_then : (files : List PageFile) (office : List ℕ) (a m b : Kept) → IsServed files office a m → IsServed files office m b
    → IsServed files office a b
served_then files office a m b h none = h
served_then files office a m b h (more {m = n} input reply before reacts leaves) =
    more input reply (served_then files office a m n h before) reacts leaves

-- one connection, of which at most one request is answered
went_served : (files : List PageFile) (office : List ℕ) (unread old new : Option (List ℕ)) (reader_failed writer_failed : Bool) (count : ℕ) (a b : Kept)
    → WentKept (ReactsOrGives files office) unread old new reader_failed writer_failed count a b → IsServed files office a b
went_served files office unread old new false false count a b w = more w.input w.ended.1.0 none w.ended.1.1.0 w.ended.1.1.1
went_served files office unread old new false true count a b w = more w.input w.ended.1.0 none w.ended.1.1.0 w.ended.1.1.1
went_served files office unread old new true false count a b w = subst (IsServed files office a) (sym w.ended.1) none
went_served files office unread old new true true count a b w = absurd w.ended

module _ {K : Type 0} {stands : K → State → Type 0} {is_clean : K → Type 0} {leaves : K → List State → Type 0} (files : List PageFile) (office : List ℕ) where
  -- nothing was asked, or what was asked only read
  pub unchanged : {old new : K} → (is_clean new → is_clean old) → (is_clean new → (s : State) → stands old s → stands new s)
      → (is_clean new → (past : List State) → leaves old past → leaves new past) → ChangesByRequests files office stands is_clean leaves old new
  unchanged clean stays crash = record {
    clean = clean;
    served = λ c a st l. (a, stays c a.state st, crash c a.past l, none);
  }

  -- one connection was answered
  pub answered : {is_same : K → K → Type 0} {old new : K} {unread before after : Option (List ℕ)} {reader_failed writer_failed : Bool}
      {result : Result Served IoFault} → (is_clean new → is_clean old)
      → Exchanged (ReactsOrGives files office) stands is_clean leaves is_same old new unread before after result
      → (IsErrOf result io.Read ↔ (reader_failed ≡ true)) → (IsErrOf result io.Write ↔ (writer_failed ≡ true))
      → ChangesByRequests files office stands is_clean leaves old new
  answered clean x e f = record {
    clean = clean;
    served = λ c a st l. (let w = went_kept x e f c a st l in (w.0, w.1, w.2, went_served files office _ _ _ _ _ _ a w.0 w.3));
  }

  -- changes, and then others
  pub changes_then : {old mid new : K} → ChangesByRequests files office stands is_clean leaves old mid
      → ChangesByRequests files office stands is_clean leaves mid new → ChangesByRequests files office stands is_clean leaves old new
  changes_then first second = record {
    clean = λ c. first.clean (second.clean c);
    served = λ c a st l.
        let m = first.served (second.clean c) a st l in
        let b = second.served c m.0 m.1 m.2 in
        (b.0, b.1, b.2, served_then files office a m.0 b.0 m.3 b.3);
  }
