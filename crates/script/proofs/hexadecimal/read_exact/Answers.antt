use Rattle.std.proofs.Common.{◌≡◌, ◌*◌, true, length, sym, ap, ◌∙◌, arith}
use Rattle.script.specs.Hex.{digits?}
use Rattle.script.proofs.Hexes.{length_hex_of, hex_of_from_places, hex_of_digits}
use Rattle.script.proofs.hexadecimal.read_exact.Goals as goal
use Rattle.script.proofs.hexadecimal.read_exact.Goals.{then-t-ne0-via-then-t-ne0, then-t-ne0-via-else-t-ne0+then-t-out, then-t-ne0-via-else-t-ne0+else-t-out+then-not-all_digits}

pub returns-then-t-ne0-clause-read : goal.returns-then-t-ne0-clause-read
returns-then-t-ne0-clause-read c bs long small e =
    let same = c.as_bytes-t.ensures.value ∙ sym e in
    let all : length c.as_bytes-t.result.now ≡ 2 * length bs = ap length same ∙ length_hex_of bs in
    let digits : digits? c.as_bytes-t.result.now ≡ true = ap digits? same ∙ hex_of_digits bs small in
    elim c.then-t-ne0.branch [
      | then-t-ne0-via-then-t-ne0 w ↦ omega (arith, w.if-t-ne0.true)
      | then-t-ne0-via-else-t-ne0+then-t-out w ↦ omega (arith, w.if-t-out.true)
      | then-t-ne0-via-else-t-ne0+else-t-out+then-not-all_digits w ↦ cc (digits, w.all_digits.ensures, w.if-not-all_digits.true)
    ]

pub returns-clause-read : goal.returns-clause-read
returns-clause-read c =
    hex_of_from_places c.loop-i.out c.as_bytes-t.result.now (omega (arith, c.if-t-ne0.false, c.if-t-out.false, c.loop-i.auto.out)) (λ k lt. c.loop-i.invariant k (omega (arith, c.loop-i-test.false, c.loop-i.auto.out))) ∙ c.as_bytes-t.ensures.value
