use Rattle.file.proofs.Backs.{any_header_back, header_back, record_back, change_back, placed, long, written_in_turn}
use Rattle.file.proofs.forms.files_read_back.Goals as goal

pub returns : goal.returns
returns g c =
    let K = g.K.Kind.model in
    let laws = g.K.Kind.laws in
    record { any_header = any_header_back; header = header_back K; parts = record_back K; change = change_back K laws; placed = placed K laws; long = long K laws; in_turn = written_in_turn K laws }
