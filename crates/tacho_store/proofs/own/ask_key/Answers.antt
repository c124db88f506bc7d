use Rattle.std.proofs.Common.{◌∙◌, ℕ, Option, Err, ap, subst}
use Rattle.tacho_state.specs.Acts.{IsOfNoFile}
use Rattle.tacho_reading.proofs.LookUpLemmas.{given_up, unknown_refuses}
use Rattle.tacho_reading.proofs.TellLemmas.{found_handed, found_refused, tells_as, tells_then}
use Rattle.tacho_store.proofs.OwnLemmas.{key_taken, owner_is, owner_passed, owner_refused, no_driver}
use Rattle.tacho_store.proofs.own.ask_key.Goals as goal

pub returns-in_err-owner : goal.returns-in_err-owner
returns-in_err-owner g c = found_handed c.in_err-owner.ensures c.from_residual.ensures (λ db s stands up. given_up _ _ up)

pub returns-in_err-ask_owner : goal.returns-in_err-ask_owner
returns-in_err-ask_owner g c =
    let taken = owner_refused c.args.driver c.in_ok-owner.owner _ c.in_err-ask_owner.ensures in
    found_refused c.in_ok-owner.ensures c.from_residual-in_err-ask_owner.ensures (subst (λ f. IsOfNoFile {A = Option ℕ} (Err f)) taken.0 tt)
    (λ db s stands looked. key_taken c.args.driver c.args.key.now s
    (taken.1 _ (owner_is c.args.key.now s c.in_ok-owner.owner (rw c.as_bytes.ensures.value at looked))) ∙ ap Err taken.0)

pub returns-in_err-driver_with : goal.returns-in_err-driver_with
returns-in_err-driver_with g c = found_handed (tells_then c.in_ok-owner.ensures c.in_err-driver_with.ensures)
    c.from_residual-in_err-driver_with.ensures (λ db s stands (looked, unknown). unknown_refuses c.args.driver s _ _
    (no_driver c.args.driver c.args.key.now s (owner_passed c.args.driver c.in_ok-owner.owner _ c.in_ok-ask_owner.ensures _
    (owner_is c.args.key.now s c.in_ok-owner.owner (rw c.as_bytes.ensures.value at looked)))) unknown)

pub returns : goal.returns
returns g c = tells_as (tells_then c.in_ok-owner.ensures c.in_ok-driver_with.ensures) tt (λ db s stands (looked, it). record {
  found = (
    it.found.0,
    record {
      driver = it.found.1;
      free = owner_passed c.args.driver c.in_ok-owner.owner _ c.in_ok-ask_owner.ensures _
          (owner_is c.args.key.now s c.in_ok-owner.owner (rw c.as_bytes.ensures.value at looked));
    },
  );
  refused = tt;
})
