mod RunRows
