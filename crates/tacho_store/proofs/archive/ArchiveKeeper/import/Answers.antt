use Rattle.std.proofs.Common.{rules, inr, refl}
use Rattle.tacho_state.specs.Acts.{caller_number}
use Rattle.tacho_store.specs.declared.archive.Archive.{Archive}
use Rattle.tacho_store.proofs.FileLemmas.{acts_whole, acts_told, acts_fault, unreadable, readable, was_read, not_of_file}
use Rattle.tacho_store.proofs.OthersLemmas.{kept_rows}
use Rattle.tacho_store.proofs.archive.ArchiveKeeper.import.Goals as goal

pub returns-in_err-content : goal.returns-in_err-content
returns-in_err-content g c = record {
  unreadable = λ f tells. (
    unreadable c.args.part c.args.file.now c.from_residual.result _ c.in_err-content.ensures.told c.from_residual.ensures f tells,
    refl,
  );
  readable = readable c.args.part c.args.file.now c.from_residual.result _ c.in_err-content.ensures.told c.from_residual.ensures;
  repeated = search rules;
  imported = λ content tells.
      acts_fault _ _ _ _ _ _ (λ k s states leaves db may. inr (leaves db may)) (λ k opened. refl)
      (λ k s stands n opened. kept_rows n _ s (stands opened).1) c.args.self.now c.from_residual.result
      (caller_number c.args.caller) c.args.part c.args.file.now _ content tells c.in_err-content.ensures.told c.from_residual.ensures;
}

pub returns : goal.returns
returns g c = record {
  unreadable = λ f tells. absurd (was_read c.args.part c.args.file.now _ f c.in_ok-content.ensures.told tells);
  readable = λ f is. absurd (not_of_file c.import.result f c.import.ensures.of_no_file is);
  repeated = λ clean s number stands is. c.import.ensures.repeated clean s number stands is;
  imported = λ content tells.
      acts_told (caller_number c.args.caller) c.args.part c.args.file.now _ content c.in_ok-content.ensures.told tells
      (acts_whole (λ (a : Archive g.row.S.Denot g.S.Store). a.conn) c.import.ensures.acts);
}
