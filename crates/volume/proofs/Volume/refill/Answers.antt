use Rattle.std.proofs.Common.{length, sym, ap, ◌∙◌}
use lib.ListN.{length-replicate}
use Rattle.volume.specs.Calls.{origin, emptied}
use Rattle.volume.specs.Loads.{settled, reached}
use Rattle.volume.specs.Memory.{held}
use Rattle.volume.specs.Reverts.{count_of}
use Rattle.volume.proofs.Loans.{along}
use Rattle.volume.proofs.Takes.{all_in}
use Rattle.volume.proofs.Volume.refill.Goals as goal

pub take_records-requires : goal.take_records-requires
take_records-requires g c =
    let before = c.args.self.now in
    let blank = c.empty.ensures.after in
    record {
      paired =
          ap (λ m. length m.heads) blank ∙ length-replicate (length before.heads.now) 0 ∙ c.requires.paired
          ∙ sym (ap (λ m. length m.cells) blank ∙ length-replicate (length before.cells.now) (origin g.K.Kind.model));
      blank = ap (λ m. m.count) blank;
      of_kind = c.requires.of_kind;
    }

pub returns-in-Ok : goal.returns-in-Ok
returns-in-Ok g c =
    let K = g.K.Kind.model in
    let f = c.args.file.bytes.now in
    let m = held c.args.self.now in
    let t = c.take_records.ensures in
    let all = all_in K f m (held c.empty.new.self) (held c.take_records.new.self) c.args.file.header.count c.take_records.result c.empty.ensures.after t.answer t.after c.in-Ok.is in
    record {
      answer = sym (ap count_of all);
      after = sym (ap (settled K (reached K f (emptied K m) c.args.file.header.count)) all);
      loans = along c.empty.ensures.loans t.loans;
    }
