-- `write`: the header, and the gates after it.
use Rattle.mask.proofs.Wholes.{write-made}
use Rattle.mask.proofs.masked_text.write.Goals as goal

pub returns : goal.returns
returns c =
    let s = c.args.job.source in
    λ N a z. write-made a s.codes.now s.wanted.now z c.header-at.ensures (c.pass-end.ensures N a.holds)
