use Rattle.std.proofs.Common.{refl}
use Rattle.tacho_check.proofs.registered.basis_of.Goals as goal

pub returns : goal.returns
returns c =
    let base = c.is_base.ensures.0 c.if-not-is_base.false in (
      record {
        driver = c.in_ok-number.number;
        holder = c.in_ok-holder.holder;
        secret = c.in_ok-key.key.now;
        base = c.in_ok-base.base;
        name = c.in_ok-name.name.now;
        downloads = c.in_ok-downloads.downloads;
        entries = c.in_ok-entries.entries;
      },
      record {
        number = c.in_ok-number.ensures;
        holder = c.in_ok-holder.ensures.0;
        secret = c.in_ok-key.ensures.0;
        base = c.in_ok-base.ensures;
        name = c.in_ok-name.ensures.0;
        downloads = c.in_ok-downloads.ensures;
        entries = c.in_ok-entries.ensures;
        within = record {
          registration = record {
            number = c.is_number.ensures.0 c.if-not-is_number.false;
            key = c.is_key.ensures.0 c.if-not-is_key.false;
            base = base.0;
            name = c.is_name.ensures.0 c.if-not-is_name.false;
          };
          monday = base.1;
          holder = c.in_ok-holder.ensures.1;
          key = c.in_ok-key.ensures.1;
          name = c.in_ok-name.ensures.1;
          few_files = c.if-downloads-gt-MOST.false;
          few_entries = c.if-entries-gt-MOST.false;
        };
      },
      record { holder = refl; downloads = refl; entries = refl },
    )
