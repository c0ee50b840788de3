use Rattle.std.proofs.Common.{◌≡◌, ◌<◌, ◌≤◌, length, rules}
use Rattle.kd_item.specs.Spelling.{number}
use Rattle.kd_client.proofs.NoReply.{small_head, whole_is}
use Rattle.kd_client.proofs.reading.read_whole.Goals as goal

pub returns-then-size-clause-err : goal.returns-then-size-clause-err
returns-then-size-clause-err g c = λ command.
    let long : length c.read_to.new.bytes.items ≡ 8 = search rules in
    let small : number c.read_to.new.bytes.items < 32 = search rules in
    small_head command c.args.at (g.L.Link.told c.args.link.now).reading (g.L.Link.told c.read_to.new.link).reading c.clear.new.self.items c.read_to.new.bytes.items c.clear.ensures.items c.in_ok-read_to.ensures.came long small

pub returns-clause-whole : goal.returns-clause-whole
returns-clause-whole g c =
    let first = c.read_to.new.bytes.items in
    let now = c.read_to-2.new.bytes.items in
    let long : length first ≡ 8 = search rules in
    let size : number first ≡ c.word_at-size.result = search rules in
    let low : 32 ≤ c.word_at-size.result = search rules in
    let high : c.word_at-size.result ≤ 2097152 = search rules in
    let all : length now ≡ c.word_at-size.result = search rules in
    whole_is (g.L.Link.told c.read_to.new.link).reading.bytes (g.L.Link.told c.read_to-2.new.link).reading.bytes first now c.word_at-size.result c.in_ok-read_to-2.ensures.came long size low high all
