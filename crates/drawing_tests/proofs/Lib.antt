mod StraightEdge
