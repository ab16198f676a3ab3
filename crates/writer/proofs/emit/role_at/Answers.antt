use Rattle.writer.proofs.Emitting.{role-gone, role-element, role-attribute, role-other}
use Rattle.writer.proofs.emit.role_at.Goals as goal

pub returns-then-depths-i : goal.returns-then-depths-i
returns-then-depths-i c =
    role-gone _ _ _ c.if-depths-i.true

pub returns-then-tag-ge128 : goal.returns-then-tag-ge128
returns-then-tag-ge128 c =
    role-attribute _ _ _ c.if-depths-i.false c.if-tag-ge128.true

pub returns-then-holds_items : goal.returns-then-holds_items
returns-then-holds_items c =
    role-element _ _ _ c.if-depths-i.false _ c.holds_items.ensures c.if-holds_items.true

pub returns : goal.returns
returns c =
    role-other _ _ _ c.if-depths-i.false _ c.holds_items.ensures c.if-holds_items.false c.if-tag-ge128.false
