use Rattle.std.proofs.Common.{arith}
use Rattle.walks.proofs.HashWalks.{enum_fed}
use Rattle.walks.proofs.hashing.enum_begun.Goals as goal

pub overflow_cast-len : goal.overflow_cast-len
overflow_cast-len c = omega (arith, c.len.ensures.most)

pub returns : goal.returns
returns c =
    enum_fed c.args.kind c.args.name.now _ _ _ _ _ _ _ c.fed_byte-opened.ensures c.len.ensures.value c.fed_byte-sized.ensures c.bytes.ensures
    c.fed-named.ensures c.from.ensures c.fed_byte.ensures
