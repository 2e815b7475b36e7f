use Rattle.std.proofs.Common.{arith}
use Rattle.file.proofs.Numbered.{record_within}
use Rattle.file.proofs.saved.SavedFile.record.Goals as goal

pub saved_at-requires : goal.saved_at-requires
saved_at-requires c =
    let saved = c.args.self.now in
    let e = record_within saved.header saved.width c.args.n saved.bytes.now saved.fits c.requires.counted c.requires.there in
    omega (arith, e)
