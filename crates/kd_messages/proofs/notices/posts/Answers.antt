-- The walk goes over all connections.
use Rattle.std.proofs.Common.{◌≡◌, ◌≤◌, List, length, map, ap, sym, ◌∙◌, arith}
use Rattle.std.proofs.lemmas.List.{take_all}
use Rattle.kd_model.specs.Words.{those}
use Rattle.kd_commands.specs.declared.conn.Conn.{Conn}
use Rattle.kd_messages.specs.News.{still_told, news_subject, telling_of}
use Rattle.kd_commands.specs.Plans.{posted}
use Rattle.kd_messages.proofs.Telling.{posts_without}
use Rattle.kd_messages.proofs.notices.posts.Goals as goal

pub returns : goal.returns
returns c =
    let cs : List Conn = c.args.desk.now.conns in
    let same : c.deref-conn-items.result.now ≡ cs = c.deref-conn-items.ensures.value ∙ ap (λ d. d.conns) c.desk.view_is in
    let far : length cs ≤ c.receivers.conn-index = omega (arith, ap length same, c.receivers-test.false) in
    c.receivers.invariant ∙ ap (λ xs. map (posted (telling_of c.args.news.now)) (those (still_told c.args.leavers.now c.args.desk.now (news_subject c.args.news.now)) xs)) (take_all c.receivers.conn-index cs far) ∙ sym (posts_without c.args.leavers.now c.args.desk.now c.args.news.now)
