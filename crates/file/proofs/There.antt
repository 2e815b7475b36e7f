-- A file that is as long as its count says has each of its records. Assumes nothing.
use Rattle.std.proofs.Common.{◌≡◌, ◌+◌, false, eqb, ltb, length, mul-le-mul_right, arith}
use Rattle.std.proofs.lemmas.Bool.{le-ltb, ne_eqb}
use Rattle.file.specs.Header.{file_length}
use Rattle.file.specs.Records.{RecordsThere}

pub records_there_lem : RecordsThere
records_there_lem width f n whole low high =
    let k = mul-le-mul_right (6 + width) high in
    let l = whole.long in
    let e0 : ltb 256 width ≡ false = le-ltb 256 width whole.narrow in
    let e1 : eqb n 0 ≡ false = ne_eqb n 0 (λ z. omega arith) in
    let e2 : ltb (length f) (file_length width n) ≡ false = le-ltb (length f) (file_length width n) (omega (arith, k, l)) in
    rw (e0, e1, e2)
